-- ---- what a reader has to believe: the definitions, the cases of refusals, what is promised
pub mod Answers
pub mod Table
pub mod Cases
pub mod Promises
-- ---- worked figures
pub mod Figures
-- ---- laws: of counting, of clamps on the plate, of clear cells; which refusal. What a go means and what is named stand in proofs/
pub mod Leading
pub mod Places
pub mod Stops
pub mod Clear
pub mod Lowest
