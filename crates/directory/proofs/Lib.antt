pub mod DigestLaws
pub mod FindLaws
