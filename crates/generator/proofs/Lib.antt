pub mod GeneratorLaws
