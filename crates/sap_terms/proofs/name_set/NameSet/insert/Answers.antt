use Rattle.std.proofs.Common.{◌≡◌, ◌++◌, ◌∷◌, [], List, ℕ, Option, Some, None, is_some, if◌then◌else◌, length, not, ap, sym, ◌∙◌}
use Rattle.std.specs.Prelude.{slice_get}
use Rattle.sap_terms.specs.code.Places.{index_of}
use Rattle.sap_terms.proofs.NameSetLemmas.{IsThere, IsNew, place-some, place-none, more-there, got-last, one_new}
use Rattle.sap_terms.proofs.name_set.NameSet.insert.Goals as goal
use Rattle.sap_terms.proofs.name_set.NameSet.insert.Goals.{In-None}

abbrev place : List (List ℕ) → List ℕ → Option ℕ
place names n = index_of (λ (m : List ℕ). m) names n

-- the same of names that are equal to these
there : (names now : List (List ℕ)) (copy n : List ℕ) (o : Option ℕ) (k : ℕ) → names ≡ now → copy ≡ n → o ≡ place names copy → o ≡ Some k → IsThere now n k
there names now copy n o k same e at is = place-some now n k ((λ i. place (sym same i) (sym e i)) ∙ sym at ∙ is)

fresh : (names now : List (List ℕ)) (copy n : List ℕ) (o : Option ℕ) → names ≡ now → copy ≡ n → o ≡ place names copy → o ≡ None → IsNew now n
fresh names now copy n o same e at is = place-none now n ((λ i. place (sym same i) (sym e i)) ∙ sym at ∙ is)

kept : (names after : List (List ℕ)) (copy : List ℕ) (o : Option ℕ) (k : ℕ) → after ≡ (if is_some o then names else names ++ copy ∷ []) → o ≡ Some k → after ≡ names
kept names after copy o k h is = h ∙ ap (λ (p : Option ℕ). if is_some p then names else names ++ copy ∷ []) is

put : (names after : List (List ℕ)) (copy : List ℕ) (o : Option ℕ) → after ≡ (if is_some o then names else names ++ copy ∷ []) → o ≡ None → after ≡ names ++ copy ∷ []
put names after copy o h is = h ∙ ap (λ (p : Option ℕ). if is_some p then names else names ++ copy ∷ []) is

is_there : (c : goal.In-Some) → IsThere c.args.self.now c.args.name.now c.in-Some.place
is_there c = there c.self.inside.names c.args.self.now c.in_ok-copy.copy c.args.name.now c.in_ok-place.field-0 c.in-Some.place c.self.view_is c.in_ok-copy.ensures c.in_ok-place.ensures.first c.in-Some.is

stays : (c : goal.In-Some) → c.push_new.new.self ≡ c.args.self.now
stays c = kept c.self.inside.names c.push_new.new.self c.in_ok-copy.copy c.in_ok-place.field-0 c.in-Some.place c.in_ok-place.ensures.ok c.in-Some.is ∙ c.self.view_is

is_fresh : (c : In-None) → IsNew c.args.self.now c.args.name.now
is_fresh c = fresh c.self.inside.names c.args.self.now c.in_ok-copy.copy c.args.name.now c.in_ok-place.field-0 c.self.view_is c.in_ok-copy.ensures c.in_ok-place.ensures.first c.in-None.is

grows : (c : In-None) → c.push_new.new.self ≡ c.args.self.now ++ c.args.name.now ∷ []
grows c = put c.self.inside.names c.push_new.new.self c.in_ok-copy.copy c.in_ok-place.field-0 c.in_ok-place.ensures.ok c.in-None.is ∙ (λ i. c.self.view_is i ++ c.in_ok-copy.ensures i ∷ [])

pub returns-in-Some-clause-place : goal.returns-in-Some-clause-place
returns-in-Some-clause-place c = sym (is_there c).at

pub returns-in-Some-clause-new : goal.returns-in-Some-clause-new
returns-in-Some-clause-new c = sym (ap not (is_there c).any)

pub returns-in-Some-clause-ok : goal.returns-in-Some-clause-ok
returns-in-Some-clause-ok c = stays c ∙ sym (is_there c).same

pub returns-in-Some-clause-there : goal.returns-in-Some-clause-there
returns-in-Some-clause-there c = ap (λ ns. slice_get ns c.in-Some.place) (stays c) ∙ (is_there c).got

pub returns-in-Some-clause-more : goal.returns-in-Some-clause-more
returns-in-Some-clause-more c = more-there c.args.self.now c.push_new.new.self c.args.name.now (stays c ∙ sym (is_there c).same)

pub returns-clause-place : goal.returns-clause-place
returns-clause-place c = c.len-last.ensures ∙ ap length c.self.view_is ∙ sym (is_fresh c).at

pub returns-clause-new : goal.returns-clause-new
returns-clause-new c = sym (ap not (is_fresh c).any)

pub returns-clause-ok : goal.returns-clause-ok
returns-clause-ok c = grows c ∙ sym (is_fresh c).last

pub returns-clause-there : goal.returns-clause-there
returns-clause-there c = (λ i. slice_get (grows c i) ((c.len-last.ensures ∙ ap length c.self.view_is) i)) ∙ got-last c.args.self.now c.args.name.now

pub returns-clause-more : goal.returns-clause-more
returns-clause-more c = more-there c.args.self.now c.push_new.new.self c.args.name.now (grows c ∙ sym (is_fresh c).last)

pub invariant_of-self-2 : goal.invariant_of-self-2
invariant_of-self-2 c =
    one_new c.self.inside.names c.push_new.new.self c.in_ok-copy.copy c.self.invariant (sym c.in-None.is ∙ c.in_ok-place.ensures.first)
    (put c.self.inside.names c.push_new.new.self c.in_ok-copy.copy c.in_ok-place.field-0 c.in_ok-place.ensures.ok c.in-None.is)
