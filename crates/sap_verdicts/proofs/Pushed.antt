-- What is put for the items of a list, one after another.
use Rattle.std.proofs.Common.{◌≡◌, ◌≤◌, ◌+◌, ℕ, List, [], ◌∷◌, ◌++◌, Some, append_assoc, codes, drop, length, map, slice_get, refl, sym, ap, ◌∙◌}
use Rattle.std.specs.Prelude.{flat_map}
use Rattle.std.proofs.Math.ListN.{drop_of_length-le}
use Rattle.std.proofs.lemmas.List.{append-nil}
use Rattle.sap_called.specs.Names.{Draw}
use Rattle.sap_terms.proofs.PlainLaws.Lists.{drop_got}
use Rattle.sap_verdicts.specs.Standing.{standing}
use Rattle.sap_verdicts.specs.VerdictText.{verdict_line, verdict_lines, verdicts_text}
use Rattle.sap_verdicts.specs.View.{found}
use Rattle.sap_verdicts.specs.declared.finding.Finding.{Finding}
use Rattle.sap_verdicts.specs.declared.standing.Standing.{Standing}

-- what is put for one, and what is still to come
pub one_put : {X Y : Type 0} (f : X → List Y) (xs : List X) (k : ℕ) (x : X) (old new : List Y) → slice_get xs k ≡ Some x → new ≡ old ++ f x
    → new ++ flat_map f (drop (k + 1) xs) ≡ old ++ flat_map f (drop k xs)
one_put f xs k x old new h e =
    let rest = flat_map f (drop (k + 1) xs) in
    ap (λ z. z ++ rest) e ∙ append_assoc old (f x) rest ∙ sym (ap (λ z. old ++ flat_map f z) (drop_got xs k x h))

pub all_put : {X Y : Type 0} (f : X → List Y) (xs : List X) (k : ℕ) (old : List Y) → length xs ≤ k → old ++ flat_map f (drop k xs) ≡ old
all_put f xs k old h = ap (λ z. old ++ flat_map f z) (drop_of_length-le xs h) ∙ append-nil old

-- the same where one item is put for each
pub one_mapped : {X Y : Type 0} (f : X → Y) (xs : List X) (k : ℕ) (x : X) (old new : List Y) → slice_get xs k ≡ Some x → new ≡ old ++ f x ∷ []
    → new ++ map f (drop (k + 1) xs) ≡ old ++ map f (drop k xs)
one_mapped f xs k x old new h e =
    let rest = map f (drop (k + 1) xs) in
    ap (λ z. z ++ rest) e ∙ append_assoc old (f x ∷ []) rest ∙ sym (ap (λ z. old ++ map f z) (drop_got xs k x h))

pub all_mapped : {X Y : Type 0} (f : X → Y) (xs : List X) (k : ℕ) (old : List Y) → length xs ≤ k → old ++ map f (drop k xs) ≡ old
all_mapped f xs k old h = ap (λ z. old ++ map f z) (drop_of_length-le xs h) ∙ append-nil old

-- what is put for what the items stand for
pub of_mapped : {X Y Z : Type 0} (f : Y → List Z) (h : X → Y) (xs : List X) → flat_map f (map h xs) ≡ flat_map (λ x. f (h x)) xs
of_mapped f h [] = refl
of_mapped f h (x ∷ xs) = ap (λ z. f (h x) ++ z) (of_mapped f h xs)

pub map_mapped : {X Y Z : Type 0} (f : Y → Z) (h : X → Y) (xs : List X) → map f (map h xs) ≡ map (λ x. f (h x)) xs
map_mapped f h [] = refl
map_mapped f h (x ∷ xs) = ap (λ z. f (h x) ∷ z) (map_mapped f h xs)

-- the lines of findings, where this is the standing
pub lines_of : (ds : List Draw) (ls : List ℕ) (ys : List Finding) (c : Standing) → c ≡ standing (map found ys)
    → map (λ y. verdict_line ds ls c (found y)) ys ≡ verdict_lines ds ls (map found ys)
lines_of ds ls ys c e = sym (map_mapped (verdict_line ds ls c) found ys) ∙ ap (λ s. map (verdict_line ds ls s) (map found ys)) e

pub verdicts_of : (ds : List Draw) (ls : List ℕ) (ys : List Finding) (c : Standing) → c ≡ standing (map found ys)
    → flat_map (λ y. verdict_line ds ls c (found y) ++ codes "\n") ys ≡ verdicts_text ds ls (map found ys)
verdicts_of ds ls ys c e =
    sym (of_mapped (λ (t : List ℕ). t ++ codes "\n") (λ y. verdict_line ds ls c (found y)) ys) ∙ ap (flat_map (λ (t : List ℕ). t ++ codes "\n")) (lines_of ds ls ys c e)
