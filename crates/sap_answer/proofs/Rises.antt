-- How counts rise.
use Rattle.std.proofs.Common.{◌≤◌, ℕ, arith}
use Rattle.sap_outside.specs.Outside.{Rose, RoseTwice}

-- a count that rose stays above
pub rose_later : (before now later : ℕ) → Rose before now → now ≤ later → Rose before later
rose_later before now later h k = omega arith

pub rose_twice : (before now later : ℕ) → Rose before now → Rose now later → RoseTwice before later
rose_twice before now later h k = omega arith

pub rose_before : (before now later : ℕ) → before ≤ now → Rose now later → Rose before later
rose_before before now later h k = omega arith
