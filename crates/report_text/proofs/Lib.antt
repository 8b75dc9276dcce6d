mod Examples
mod Passed
