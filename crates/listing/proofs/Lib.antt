pub mod RegistryLaws
