-- the serial run, what reads and works over them answer, and when a record is valid
pub mod Reading
pub mod Works
pub mod Records
pub mod Runs
-- how a run goes on, what it answers, and its laws
pub mod Answers
pub mod Laws
pub mod Trails
-- what the worked examples and the tests run
pub mod Sample
