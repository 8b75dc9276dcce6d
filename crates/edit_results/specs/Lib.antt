-- whole results: their rules, and where they are within the limits
pub mod Results
-- Ints that go into Fixed columns
pub mod Widening
