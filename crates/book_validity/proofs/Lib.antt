pub mod CountLaws
pub mod ValidLaws
pub mod BookLaws
pub mod PaymentLaws
pub mod PassedLaws
