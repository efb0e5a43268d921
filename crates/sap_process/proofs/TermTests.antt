-- The tests of terms over a signature and of destructors, in lists of terms and of facts.
use Rattle.std.proofs.Common.{◌≡◌, ℕ, ◌+◌, ◌<◌, List, [], ◌∷◌, ◌++◌, Bool, true, false, ◌&&◌, ◌||◌, length, drop, get_or, add-one, refl, sym, ap, ◌∙◌}
use Rattle.std.proofs.Math.Seq.{drop-cons}
use Rattle.sap_terms.specs.Signature.{Sig}
use Rattle.sap_terms.specs.Tree.{Tree, trees_of}
use Rattle.sap_terms.specs.declared.fact.Fact.{Fact}
use Rattle.sap_process.specs.Heads.{facts_terms}
use Rattle.sap_terms.specs.TermTests.{is_over, are_over, has_destructor, any_has_destructor}

and_assoc : (a b c : Bool) → (a && (b && c)) ≡ ((a && b) && c)
and_assoc true b c = refl
and_assoc false b c = refl

or_assoc : (a b c : Bool) → (a || (b || c)) ≡ ((a || b) || c)
or_assoc true b c = refl
or_assoc false b c = refl

pub and-true : (a : Bool) → (a && true) ≡ a
and-true true = refl
and-true false = refl

pub or-false : (a : Bool) → (a || false) ≡ a
or-false true = refl
or-false false = refl

pub over-append : (g : Sig) (xs ys : List Tree) → are_over g (trees_of (xs ++ ys)) ≡ (are_over g (trees_of xs) && are_over g (trees_of ys))
over-append g [] ys = refl
over-append g (x ∷ xs) ys = ap (λ b. is_over g x && b) (over-append g xs ys) ∙ and_assoc (is_over g x) (are_over g (trees_of xs)) (are_over g (trees_of ys))

pub destructor-append : (g : Sig) (xs ys : List Tree) → any_has_destructor g (trees_of (xs ++ ys)) ≡ (any_has_destructor g (trees_of xs) || any_has_destructor g (trees_of ys))
destructor-append g [] ys = refl
destructor-append g (x ∷ xs) ys = ap (λ b. has_destructor g x || b) (destructor-append g xs ys) ∙ or_assoc (has_destructor g x) (any_has_destructor g (trees_of xs)) (any_has_destructor g (trees_of ys))

facts_over-append : (g : Sig) (fs hs : List Fact) → are_over g (trees_of (facts_terms (fs ++ hs))) ≡ (are_over g (trees_of (facts_terms fs)) && are_over g (trees_of (facts_terms hs)))
facts_over-append g [] hs = refl
facts_over-append g (f ∷ fs) hs =
    over-append g f.args (facts_terms (fs ++ hs)) ∙ ap (λ b. are_over g (trees_of f.args) && b) (facts_over-append g fs hs)
    ∙ and_assoc (are_over g (trees_of f.args)) (are_over g (trees_of (facts_terms fs))) (are_over g (trees_of (facts_terms hs)))
    ∙ ap (λ b. b && are_over g (trees_of (facts_terms hs))) (sym (over-append g f.args (facts_terms fs)))

-- the three sides of a rule
pub rule-over : (g : Sig) (l e r : List Fact) → are_over g (trees_of (facts_terms (l ++ (e ++ r)))) ≡ (are_over g (trees_of (facts_terms l)) && (are_over g (trees_of (facts_terms e)) && are_over g (trees_of (facts_terms r))))
rule-over g l e r = facts_over-append g l (e ++ r) ∙ ap (λ b. are_over g (trees_of (facts_terms l)) && b) (facts_over-append g e r)

-- the facts from place i on
pub facts-from : (fs : List Fact) (i : ℕ) (f : Fact) → i < length fs → f ≡ get_or fs i f → facts_terms (drop i fs) ≡ f.args ++ facts_terms (drop (i + 1) fs)
facts-from fs i f below at =
    ap facts_terms (drop-cons fs i f below) ∙ rw (add-one, ← at) refl

pub over-from : (g : Sig) (fs : List Fact) (i : ℕ) (f : Fact) → i < length fs → f ≡ get_or fs i f → are_over g (trees_of (facts_terms (drop i fs))) ≡ (are_over g (trees_of f.args) && are_over g (trees_of (facts_terms (drop (i + 1) fs))))
over-from g fs i f below at = ap (λ ts. are_over g (trees_of ts)) (facts-from fs i f below at) ∙ over-append g f.args (facts_terms (drop (i + 1) fs))

pub destructor-from : (g : Sig) (fs : List Fact) (i : ℕ) (f : Fact) → i < length fs → f ≡ get_or fs i f → any_has_destructor g (trees_of (facts_terms (drop i fs))) ≡ (any_has_destructor g (trees_of f.args) || any_has_destructor g (trees_of (facts_terms (drop (i + 1) fs))))
destructor-from g fs i f below at = ap (λ ts. any_has_destructor g (trees_of ts)) (facts-from fs i f below at) ∙ destructor-append g f.args (facts_terms (drop (i + 1) fs))

pub ruleset over_lists = (over-append, and-true, rule-over)

pub ruleset destructor_lists = (destructor-append, or-false)
