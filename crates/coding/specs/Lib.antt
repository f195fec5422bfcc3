pub mod Url
pub mod Units
pub mod Params
