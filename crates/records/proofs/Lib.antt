pub mod Types
pub mod PartLaws
pub mod CallLaws
pub mod RecordsLaws
