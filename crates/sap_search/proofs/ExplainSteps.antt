-- The search for the choices that show a claim, step by step.
use Rattle.std.proofs.Common.{◌≡◌, ℕ, suc, ◌+◌, ◌-◌, ◌<◌, ◌≤◌, List, [], ◌∷◌, ◌++◌, Bool, true, false, Option, Some, None, length, drop, take, map, slice_get, append_assoc, refl, sym, ap, ◌∙◌, if◌then◌else◌, arith}
use mathlib.Core.Bool.{beq}
use Rattle.std.proofs.Math.ListN.{drop_of_length-le}
use Rattle.std.proofs.lemmas.List.{append-nil}
use Rattle.sap_match.specs.Atoms.{Held, Sight}
use Rattle.sap_match.specs.Matched.{IsMet, guarded, is_there, onward}
use Rattle.sap_match.specs.View.{atom, sight}
use Rattle.sap_match.specs.declared.sighted.Sighted.{Sighted}
use Rattle.sap_search.proofs.SearchSteps.{guards_got, map_length, single}
use Rattle.sap_search.specs.Claims.{Chosen}
use Rattle.sap_search.specs.Explained.{first_led, first_some, got, in_front, or_next, told, with_value}
use Rattle.sap_search.specs.View.{chosen_value, guard, slotted}
use Rattle.sap_search.specs.code.Answers.{Answers, IsOnlyLed, led_by, or_nothing}
use Rattle.sap_search.specs.declared.claim.Chosen.{Chosen as ChosenValue}
use Rattle.sap_search.specs.declared.claim.Slotted.{Slotted as SlottedBinder}
use Rattle.sap_search.specs.declared.plan.GuardPlan.{GuardPlan}
use Rattle.sap_terms.proofs.PlainLaws.Lists.{drop_got}
use Rattle.sap_terms.specs.Signature.{same_bool}

abbrev pub Leaf : Type 0
Leaf = List Held → Option (List Chosen)

-- what is left where the rest is cut off
cut_map : {X Y : Type 0} (f : X → Y) (xs ys : List X) (more : List Y) → map f ys ≡ map f xs ++ more → map f (take (length xs) ys) ≡ map f xs
cut_map f [] [] more e = refl
cut_map f [] (y ∷ ys) more e = refl
cut_map f (x ∷ xs) [] more e = absurd (cc)
cut_map f (x ∷ xs) (y ∷ ys) more e =
    let h : f y ≡ f x = cc in
    let t : map f ys ≡ map f xs ++ more = cc in
    let r = cut_map f xs ys more t in
    λ i. h i ∷ r i

pub tested_answers : (t b : Bool) (old : List Chosen) → Answers (beq t b) old old (if same_bool t b then Some [] else None)
tested_answers true true old = record { is = refl; put = sym (append-nil old) }
tested_answers true false old = record { is = refl; put = sym (append-nil old) }
tested_answers false true old = record { is = refl; put = sym (append-nil old) }
tested_answers false false old = record { is = refl; put = sym (append-nil old) }

-- both

pub both_no : (b : Bool) (old new : List Chosen) (o p : Option (List Chosen)) → Answers b old new o → b ≡ false → Answers false old new (onward o (λ cs. in_front cs p))
both_no b old new None p a e = record { is = refl; put = a.put }
both_no b old new (Some cs) p a e = let i = a.is in absurd (cc)

pub both_yes : (b c : Bool) (old mid new : List Chosen) (o p : Option (List Chosen)) → Answers b old mid o → b ≡ true → Answers c mid new p → c ≡ true → Answers true old new (onward o (λ cs. in_front cs p))
both_yes b c old mid new None p a e d f = let i = a.is in absurd (cc)
both_yes b c old mid new (Some cs) None a e d f = let i = d.is in absurd (cc)
both_yes b c old mid new (Some cs) (Some ds) a e d f = record { is = refl; put = d.put ∙ ap (λ l. l ++ ds) a.put ∙ append_assoc old cs ds }

pub both_cut : (b c : Bool) (old mid new : List ChosenValue) (o p : Option (List Chosen)) → Answers b (map chosen_value old) (map chosen_value mid) o → b ≡ true → Answers c (map chosen_value mid) (map chosen_value new) p → c ≡ false → Answers false (map chosen_value old) (map chosen_value (take (length old) new)) (onward o (λ cs. in_front cs p))
both_cut b c old mid new None p a e d f = let i = a.is in absurd (cc)
both_cut b c old mid new (Some cs) (Some ds) a e d f = let i = d.is in absurd (cc)
both_cut b c old mid new (Some cs) None a e d f =
    let all : map chosen_value new ≡ map chosen_value old ++ cs = d.put ∙ append-nil (map chosen_value mid) ∙ a.put in
    record { is = refl; put = cut_map chosen_value old new cs all ∙ sym (append-nil (map chosen_value old)) }

-- the first of two

pub either_yes : (b : Bool) (old new : List Chosen) (o p : Option (List Chosen)) → Answers b old new o → b ≡ true → Answers true old new (or_next o p)
either_yes b old new None p a e = let i = a.is in absurd (cc)
either_yes b old new (Some cs) p a e = record { is = refl; put = a.put }

pub either_no : (b c : Bool) (old mid new : List Chosen) (o p : Option (List Chosen)) → Answers b old mid o → b ≡ false → Answers c mid new p → Answers c old new (or_next o p)
either_no b c old mid new None p a e d = record { is = d.is; put = d.put ∙ ap (λ l. l ++ or_nothing p) (a.put ∙ append-nil old) }
either_no b c old mid new (Some cs) p a e d = let i = a.is in absurd (cc)

-- behind the values of binders

pub under_yes : (c : Bool) (old mid new ts : List Chosen) (p : Option (List Chosen)) → mid ≡ old ++ ts → Answers c mid new p → c ≡ true → Answers true old new (in_front ts p)
under_yes c old mid new ts None e d f = let i = d.is in absurd (cc)
under_yes c old mid new ts (Some ds) e d f = record { is = refl; put = d.put ∙ ap (λ l. l ++ ds) e ∙ append_assoc old ts ds }

pub under_no : (c : Bool) (old mid new : List ChosenValue) (ts : List Chosen) (p : Option (List Chosen)) → map chosen_value mid ≡ map chosen_value old ++ ts → Answers c (map chosen_value mid) (map chosen_value new) p → c ≡ false → Answers false (map chosen_value old) (map chosen_value (take (length old) new)) (in_front ts p)
under_no c old mid new ts (Some ds) e d f = let i = d.is in absurd (cc)
under_no c old mid new ts None e d f =
    let all : map chosen_value new ≡ map chosen_value old ++ ts = d.put ∙ append-nil (map chosen_value mid) ∙ e in
    record { is = refl; put = cut_map chosen_value old new ts all ∙ sym (append-nil (map chosen_value old)) }

-- guards

or_none : {Y : Type 0} (o : Option Y) → or_next o None ≡ o
or_none None = refl
or_none (Some y) = refl

-- a guard with one fact
pub only_led : (g : GuardPlan) (s : Sighted) (hs ks : List Held) (b : Bool) → length g.facts.now ≡ 1 → slice_get g.facts.now 0 ≡ Some s → IsMet ks b (guarded (atom g.atom) s.fact.now s.time hs) → IsOnlyLed (guard g) hs ks b
only_led g s hs ks b l f m gs leaf = ap (λ z. first_some (λ s. onward (guarded (atom g.atom) s.fact s.time hs) (λ h. first_led gs h leaf)) z) (single g.facts.now s l f) ∙ or_none (onward (guarded (atom g.atom) s.fact.now s.time hs) (λ h. first_led gs h leaf)) ∙ at b m where
  at : (b : Bool) → IsMet ks b (guarded (atom g.atom) s.fact.now s.time hs) → onward (guarded (atom g.atom) s.fact.now s.time hs) (λ h. first_led gs h leaf) ≡ (if b then first_led gs ks leaf else None)
  at true e = ap (λ o. onward o (λ h. first_led gs h leaf)) e
  at false e = ap (λ o. onward o (λ h. first_led gs h leaf)) e

pub ruleset only_led_laws = (only_led)

pub led_on : (gs : List GuardPlan) (k : ℕ) (g : GuardPlan) (hs ks : List Held) (leaf : Leaf) (b : Bool) → slice_get gs k ≡ Some g → IsOnlyLed (guard g) hs ks b → first_led (map guard (drop k gs)) hs leaf ≡ (if b then first_led (map guard (drop (k + 1) gs)) ks leaf else None)
led_on gs k g hs ks leaf b h m = ap (λ z. first_led z hs leaf) (guards_got gs k g h) ∙ m (map guard (drop (k + 1) gs)) leaf

-- no guard is left
pub led_end : (gs : List GuardPlan) (k : ℕ) (hs : List Held) (leaf : Leaf) → length gs ≤ k → first_led (map guard (drop k gs)) hs leaf ≡ leaf hs
led_end gs k hs leaf h = ap (λ l. first_led (map guard l) hs leaf) (drop_of_length-le gs h)

-- the facts of a guard, one after another
pub led_by_facts : (gs : List GuardPlan) (k : ℕ) (g : GuardPlan) (hs : List Held) (leaf : Leaf) → slice_get gs k ≡ Some g → first_led (map guard (drop k gs)) hs leaf ≡ first_some (λ s. led_by (map guard (drop k gs)) s hs leaf) (map sight g.facts.now)
led_by_facts gs k g hs leaf h = ap (λ z. first_led z hs leaf) (guards_got gs k g h) ∙ sym (ap (λ z. first_some (λ s. led_by z s hs leaf) (map sight g.facts.now)) (guards_got gs k g h))

-- one fact more
pub some_on : (f : Sight → Option (List Chosen)) (xs : List Sighted) (k : ℕ) (x : Sighted) → slice_get xs k ≡ Some x → first_some f (map sight (drop k xs)) ≡ or_next (f (sight x)) (first_some f (map sight (drop (k + 1) xs)))
some_on f xs k x h = ap (λ l. first_some f (map sight l)) (drop_got xs k x h)

pub some_end : (f : Sight → Option (List Chosen)) (xs : List Sighted) (k : ℕ) → length xs ≤ k → first_some f (map sight (drop k xs)) ≡ None
some_end f xs k h = ap (λ l. first_some f (map sight l)) (drop_of_length-le xs h)

-- an answer that there is nothing, and its list
pub nothing_found : (b : Bool) (old new : List Chosen) (o : Option (List Chosen)) → Answers b old new o → b ≡ false → (o ≡ None) × (new ≡ old)
nothing_found b old new None a e = (refl, a.put ∙ append-nil old)
nothing_found b old new (Some cs) a e = let i = a.is in absurd (cc)

pub nothing_answers : (old : List Chosen) (o : Option (List Chosen)) → o ≡ None → Answers false old old o
nothing_answers old None e = record { is = refl; put = sym (append-nil old) }
nothing_answers old (Some cs) e = absurd (cc)

-- one fact leads on
pub led_met : (gs : List GuardPlan) (k : ℕ) (g : GuardPlan) (s : Sighted) (hs ks : List Held) (leaf : Leaf) → slice_get gs k ≡ Some g → guarded (atom g.atom) s.fact.now s.time hs ≡ Some ks → led_by (map guard (drop k gs)) (sight s) hs leaf ≡ first_led (map guard (drop (k + 1) gs)) ks leaf
led_met gs k g s hs ks leaf h e = ap (λ z. led_by z (sight s) hs leaf) (guards_got gs k g h) ∙ ap (λ o. onward o (λ h. first_led (map guard (drop (k + 1) gs)) h leaf)) e

pub led_missed : (gs : List GuardPlan) (k : ℕ) (g : GuardPlan) (s : Sighted) (hs : List Held) (leaf : Leaf) → slice_get gs k ≡ Some g → guarded (atom g.atom) s.fact.now s.time hs ≡ None → led_by (map guard (drop k gs)) (sight s) hs leaf ≡ None
led_missed gs k g s hs leaf h e = ap (λ z. led_by z (sight s) hs leaf) (guards_got gs k g h) ∙ ap (λ o. onward o (λ h. first_led (map guard (drop (k + 1) gs)) h leaf)) e

-- binders are told from the end on

drop_nothing : {X : Type 0} (xs : List X) (j : ℕ) → j ≡ 0 → drop j xs ≡ xs
drop_nothing [] j e = rw e refl
drop_nothing (x ∷ xs) j e = rw e refl

pub told_start : (old : List Chosen) (ts : List SlottedBinder) (hs : List Held) → old ≡ old ++ told (map slotted (drop (length ts - 0) ts)) hs
told_start old ts hs = sym (ap (λ l. old ++ told (map slotted l) hs) (drop_of_length-le ts (omega arith)) ∙ append-nil old)

pub told_all : (ts : List SlottedBinder) (k : ℕ) (hs : List Held) → length ts ≤ k → told (map slotted (drop (length ts - k) ts)) hs ≡ told (map slotted ts) hs
told_all ts k hs h = ap (λ l. told (map slotted l) hs) (drop_nothing ts (length ts - k) (omega (arith, h)))

pub told_one : (ts : List SlottedBinder) (k : ℕ) (t : SlottedBinder) (hs : List Held) (old out new : List Chosen) → k < length ts → slice_get ts (length ts - 1 - k) ≡ Some t → out ≡ old ++ told (map slotted (drop (length ts - k) ts)) hs → new ≡ out ++ with_value t.binder.now (got t.slot hs) → new ≡ old ++ told (map slotted (drop (length ts - (k + 1)) ts)) hs
told_one ts k t hs old out new l h e f =
    let j : length ts - (k + 1) ≡ length ts - 1 - k = omega (arith, l) in
    let n : (length ts - 1 - k) + 1 ≡ length ts - k = omega (arith, l) in
    let d = ap (λ i. drop i ts) j ∙ drop_got ts (length ts - 1 - k) t h ∙ ap (λ i. t ∷ drop i ts) n in
    f ∙ ap (λ o. o ++ with_value t.binder.now (got t.slot hs)) e ∙ append_assoc old (told (map slotted (drop (length ts - k) ts)) hs) (with_value t.binder.now (got t.slot hs)) ∙ sym (ap (λ z. old ++ told (map slotted z) hs) d)

-- all guards are left at the start
pub led_whole : (gs : List GuardPlan) (hs : List Held) (leaf : Leaf) → first_led (map guard (drop 0 gs)) hs leaf ≡ first_led (map guard gs) hs leaf
led_whole gs hs leaf = ap (λ l. first_led (map guard l) hs leaf) (drop_nothing gs 0 refl)

pub ruleset explain_laws = (led_whole, map_length)
