pub mod ShellWords
pub mod Texts
pub mod Typed
