mod Apart
mod Kept
mod Lists
mod Spelled
