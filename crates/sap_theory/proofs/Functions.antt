-- The line of the symbols that have to be declared, as far as it is written.
use Rattle.std.proofs.Common.{◌≡◌, ◌+◌, ◌++◌, ◌∙◌, ℕ, Bool, true, false, List, not, refl, Some}
use Rattle.std.specs.Prelude.{codes, slice_get, if◌then◌else◌, ◌&&◌}
use Rattle.sap_terms.specs.Signature.{Sig}
use Rattle.sap_terms.specs.declared.signature.Symbol.{Symbol}
use Rattle.sap_theory.specs.Pieces.{lead}
use Rattle.sap_theory.specs.SignatureText.{symbol_text, is_brought}
use Rattle.sap_theory.proofs.Listing.{IsBegun, further, passed}

abbrev pub heading : List ℕ
heading = codes "\nfunctions: "

-- no builtin that was added brings it
abbrev pub has_to : Sig → Symbol → Bool
has_to g s = not (is_brought g s.name)

-- the texts of the first of these symbols, k of them, that have to be declared
abbrev pub done : Sig → List Symbol → ℕ → List (List ℕ)
done g ss k = passed (has_to g) symbol_text ss k

-- the two ways round
other_way : {A : Type 0} (b : Bool) (x y : A) → (if b then x else y) ≡ (if not b then y else x)
other_way true x y = refl
other_way false x y = refl

twice_not : (b c : Bool) → (b && c) ≡ (not (not b) && c)
twice_not true c = refl
twice_not false c = refl

-- the line goes on by the symbol at place k
pub function_further : (g : Sig) (ss : List Symbol) (before text : List ℕ) (is_first : Bool) (k : ℕ) (s : Symbol) (new : List ℕ) (next : Bool)
    → slice_get ss k ≡ Some s
    → IsBegun heading before (done g ss k) text is_first
    → new ≡ (if is_brought g s.name then text else (text ++ lead is_first heading) ++ symbol_text s)
    → next ≡ (is_brought g s.name && is_first)
    → IsBegun heading before (done g ss (k + 1)) new next
function_further g ss before text is_first k s new next held h written first =
    further heading before (has_to g) symbol_text ss k s text is_first new next held h (written ∙ other_way (is_brought g s.name) text ((text ++ lead is_first heading) ++ symbol_text s)) (first ∙ twice_not (is_brought g s.name) is_first)
