mod Examples
mod Statuses
