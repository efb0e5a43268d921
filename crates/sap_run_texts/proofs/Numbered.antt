-- The words of a step are numbered where its numbers are of 64 bits.
use Rattle.std.proofs.Common.{◌<◌, ◌^◌, ℕ, suc, List, [], ◌∷◌, ◌++◌, map}
use Rattle.std.specs.Prelude.{get_or}
use Rattle.sap_terms.specs.declared.binding.Binding.{Binding}
use Rattle.sap_run_lines.specs.LineWords.{LineWord, number}
use Rattle.sap_run_lines.specs.StepLines.{bound_word, with_words, use_words}
use Rattle.sap_run_texts.specs.Writable.{AreNumbered}

-- numbers that fit at each index
pub items_numbered : (ns : List ℕ) → ((i : ℕ) → get_or ns i 0 < 2 ^ 64) → AreNumbered (map number ns)
items_numbered [] h = tt
items_numbered (n ∷ ns) h = (h 0, items_numbered ns (λ i. h (suc i)))

bound_numbered : (bs : List Binding) → AreNumbered (map bound_word bs)
bound_numbered [] = tt
bound_numbered (b ∷ bs) = (tt, bound_numbered bs)

with_numbered : (bs : List Binding) → AreNumbered (with_words bs)
with_numbered [] = tt
with_numbered (b ∷ bs) = (tt, (tt, bound_numbered bs))

before : (ns : List ℕ) (ws : List LineWord) → AreNumbered (map number ns) → AreNumbered ws → AreNumbered (map number ns ++ ws)
before [] ws h w = w
before (n ∷ ns) ws h w = (h.0, before ns ws h.1 w)

pub uses_numbered : (facts : List ℕ) (bs : List Binding) → AreNumbered (map number facts) → AreNumbered (use_words facts bs)
uses_numbered facts bs h = before facts (with_words bs) h (with_numbered bs)
