pub mod Retold
pub mod Texts
