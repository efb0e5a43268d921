-- What is open where a word is tried.
use Rattle.std.specs.Prelude.{ℕ, List, ◌++◌, take}
use Rattle.sap_expect.specs.declared.wanted.Wanted as code

-- so many of what was open are left, and these came on top of them
abbrev pub on_top : List (code.Wanted × ℕ) → ℕ → List (code.Wanted × ℕ) → List (code.Wanted × ℕ)
on_top stack left more = take left stack ++ more
