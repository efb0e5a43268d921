-- What the readers of lists of terms ask of a term.
use Rattle.std.proofs.Common.{◌≡◌, ◌<◌, ℕ, zero, suc, List, [], length, Some, None, refl}
use Rattle.sap_terms.specs.Signature.{Sig}
use Rattle.sap_terms.specs.Tree.{Tree}
use Rattle.sap_grammar.specs.Words.{Word}
use Rattle.sap_grammar.specs.Reading.{given}
use Rattle.sap_grammar.specs.TermReading.{term, rest}
use Rattle.sap_grammar.proofs.Sound.{term_is}
use Rattle.sap_grammar.proofs.ReadingLaws.Ends.{term_shorter}

-- what follows a term is shorter
pub term_shrinks : (g : Sig) (d : ℕ) (ws b : List Word) (t : Tree) → term g d ws ≡ Some (t, b) → length b < length ws
term_shrinks g d ws b t e = term_shorter (term_is g d ws t b e)

-- nothing is read where nothing is left
pub term_nothing : (g : Sig) (d : ℕ) → term g d [] ≡ None
unfolding term rest given
term_nothing g zero = refl
term_nothing g (suc d) = refl
