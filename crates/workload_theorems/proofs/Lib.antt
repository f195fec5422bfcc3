pub mod ShownLaws
pub mod AskedLaws
pub mod TurnLaws
pub mod TextLaws
pub mod CallLaws
pub mod LoadClaims
