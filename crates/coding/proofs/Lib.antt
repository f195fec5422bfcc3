pub mod UnitLaws
pub mod WriteLaws
pub mod CodedLaws
pub mod ParamLaws
