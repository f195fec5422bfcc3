pub mod LoadClaims
