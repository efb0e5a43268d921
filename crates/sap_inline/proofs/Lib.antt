pub mod Inlines
