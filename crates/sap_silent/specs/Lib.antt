pub mod SilentNames
