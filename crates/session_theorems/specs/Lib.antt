pub mod SettledPrint
