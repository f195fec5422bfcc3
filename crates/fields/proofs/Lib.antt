pub mod CodeLaws
pub mod AmountLaws
pub mod NumberLaws
