-- No two rules of a process have one name.
use Rattle.std.proofs.Common.{◌≡◌, ℕ, Bool, true, false, cond, ◌==◌, ◌++◌, List, [], ◌∷◌, None, Some, refl, sym, ap, ◌∙◌}
use Rattle.std.specs.Str.{bytes_eq}
use Rattle.sap_terms.specs.declared.var.Var.{Var}
use Rattle.sap_process.specs.Scopes.{scope_behind}
use Rattle.sap_process.specs.Action as action
use Rattle.sap_process.specs.Proc as whole
use Rattle.sap_process.specs.Proc.{Proc, act}
use Rattle.sap_process.specs.Sites.{message_var}
use Rattle.sap_rule.specs.Named.{rule_named, HaveNamesOfTheirOwn}
use Rattle.sap_rule.specs.declared.rule.Rule.{Rule}
use Rattle.sap_translate.specs.Members.{Member}
use Rattle.sap_templates.specs.Templates.{first_of, second_of, own_rules, place_rules, init_rule, rules_of}
use Rattle.sap_translate.proofs.Shared.Lookups.{member_cases, in_left, in_right}
use Rattle.sap_translate.proofs.Shared.Facts.{same_name_true}
use Rattle.sap_translate.proofs.Parts.Places.{home}
use Rattle.sap_translate.proofs.Premises.RuleNames.{named_by_places}
use Rattle.sap_translate.proofs.Terms.Derive.{contains}

-- no rule of the one list has the name of one of the other
abbrev Apart : List Rule → List Rule → Type 0
Apart rs qs = (r s : Rule) → Member r rs → Member s qs → r.name ≡ s.name → ⊥

-- a name that no rule has is found nowhere
unnamed : (n : List ℕ) (rs : List Rule) → ((r : Rule) → Member r rs → n ≡ r.name → ⊥) → rule_named rs n ≡ None
unnamed n [] h = refl
unnamed n (r ∷ rs) h = go (bytes_eq r.name n) refl (unnamed n rs (λ s m. h s (Member.later m)))
  where
    go : (b : Bool) → bytes_eq r.name n ≡ b → rule_named rs n ≡ None → rule_named (r ∷ rs) n ≡ None
    go true e rest = absurd (h r Member.here (sym (same_name_true r.name n e)))
    go false e rest = ap (λ b. cond b (Some r) (rule_named rs n)) e ∙ rest

named_in_neither : (n : List ℕ) (rs qs : List Rule) → rule_named rs n ≡ None → rule_named qs n ≡ None → rule_named (rs ++ qs) n ≡ None
named_in_neither n [] qs h k = k
named_in_neither n (r ∷ rs) qs h k = go (bytes_eq r.name n) refl (λ e. named_in_neither n rs qs e k)
  where
    go : (b : Bool) → bytes_eq r.name n ≡ b → (rule_named rs n ≡ None → rule_named (rs ++ qs) n ≡ None) → rule_named (r ∷ (rs ++ qs)) n ≡ None
    go true e rest = absurd (let z : Some r ≡ None = ap (λ b. cond b (Some r) (rule_named rs n)) (sym e) ∙ h in cc)
    go false e rest = ap (λ b. cond b (Some r) (rule_named (rs ++ qs) n)) e ∙ rest (ap (λ b. cond b (Some r) (rule_named rs n)) (sym e) ∙ h)

own_in_both : (rs qs : List Rule) → HaveNamesOfTheirOwn rs → HaveNamesOfTheirOwn qs → Apart rs qs → HaveNamesOfTheirOwn (rs ++ qs)
own_in_both [] qs h k apart = k
own_in_both (r ∷ rs) qs h k apart = (
  named_in_neither r.name rs qs h.0 (unnamed r.name qs (λ s m. apart r s Member.here m)),
  own_in_both rs qs h.1 k (λ a s m. apart a s (Member.later m)),
)

-- those of one place
own_at_place : (path : List ℕ) (v : List Var) (p : Proc) → HaveNamesOfTheirOwn (own_rules path v p)
own_at_place path v whole.nil = (refl, tt)
own_at_place path v (whole.parallel p q) = (refl, tt)
own_at_place path v (whole.replicated p) = (refl, (refl, tt))
own_at_place path v (whole.test t u p q) = (refl, (refl, tt))
own_at_place path v (whole.lookup t x p q) = (refl, (refl, tt))
own_at_place path v (act (action.new x) p) = (refl, tt)
own_at_place path v (act (action.out t) p) = (refl, tt)
own_at_place path v (act (action.send t u) p) = (refl, (refl, (refl, tt)))
own_at_place path v (act (action.input t) p) = (refl, tt)
own_at_place path v (act (action.receive t u) p) = (refl, (refl, tt))
own_at_place path v (act (action.event f) p) = (refl, tt)
own_at_place path v (act (action.insert t u) p) = (refl, tt)
own_at_place path v (act (action.delete t) p) = (refl, tt)
own_at_place path v (act (action.lock t l) p) = (refl, tt)
own_at_place path v (act (action.unlock t l) p) = (refl, tt)
own_at_place path v (act (action.embedded l a e) p) = (refl, tt)

-- paths of a place and below its children differ

below_is_longer : (xs ys : List ℕ) (d : ℕ) → xs ≡ (xs ++ d ∷ []) ++ ys → ⊥
below_is_longer [] ys d e = cc
below_is_longer (x ∷ xs) ys d e = below_is_longer xs ys d (let z : xs ≡ (xs ++ d ∷ []) ++ ys = cc in z)

children_differ : (xs ys zs : List ℕ) → first_of xs ++ ys ≡ second_of xs ++ zs → ⊥
children_differ [] ys zs e = absurd (let z : ◌≡◌ {A = ℕ} 1 2 = cc in cc)
children_differ (x ∷ xs) ys zs e = children_differ xs ys zs (let z : first_of xs ++ ys ≡ second_of xs ++ zs = cc in z)

-- rules of one name, of this place or below it, are of one path
one_path : (path other : List ℕ) (v w : List Var) (p q : Proc) (r s : Rule) → Member r (own_rules path v p) → Member s (own_rules other w q) → r.name ≡ s.name → path ≡ other
one_path path other v w p q r s m k e = named_by_places path other v w p q r s (contains m) (contains k) e

above_below : (path : List ℕ) (d : ℕ) (v w : List Var) (p q : Proc) → Apart (own_rules path v p) (place_rules (path ++ d ∷ []) w q)
above_below path d v w p q r s m k e =
    let h = home w q (path ++ d ∷ []) s k in
    below_is_longer path h.path d (one_path path ((path ++ d ∷ []) ++ h.path) v h.scope p h.body r s m h.own e)

beside : (path : List ℕ) (v w : List Var) (p q : Proc) → Apart (place_rules (first_of path) v p) (place_rules (second_of path) w q)
beside path v w p q r s m k e =
    let a = home v p (first_of path) r m in
    let b = home w q (second_of path) s k in
    children_differ path a.path b.path (one_path (first_of path ++ a.path) (second_of path ++ b.path) a.scope b.scope a.body b.body r s a.own b.own e)

apart_of_both : (rs qs ss : List Rule) → Apart rs qs → Apart rs ss → Apart rs (qs ++ ss)
apart_of_both rs qs ss h k r s m n e = elim (member_cases qs ss n) [ in_left a ↦ h r s m a e | in_right b ↦ k r s m b e ]

own_one : (path : List ℕ) (v w : List Var) (p q : Proc) → HaveNamesOfTheirOwn (place_rules (first_of path) w q) → HaveNamesOfTheirOwn (own_rules path v p ++ place_rules (first_of path) w q)
own_one path v w p q h = own_in_both (own_rules path v p) (place_rules (first_of path) w q) (own_at_place path v p) h (above_below path 1 v w p q)

own_two : (path : List ℕ) (v w : List Var) (b p q : Proc) → HaveNamesOfTheirOwn (place_rules (first_of path) w p) → HaveNamesOfTheirOwn (place_rules (second_of path) v q)
    → HaveNamesOfTheirOwn (own_rules path v b ++ (place_rules (first_of path) w p ++ place_rules (second_of path) v q))
own_two path v w b p q h k =
    let one = place_rules (first_of path) w p in
    let two = place_rules (second_of path) v q in
    own_in_both (own_rules path v b) (one ++ two) (own_at_place path v b) (own_in_both one two h k (beside path w v p q))
    (apart_of_both (own_rules path v b) one two (above_below path 1 v w b p) (above_below path 2 v v b q))

-- those of all places
own_at_places : (path : List ℕ) (v : List Var) (p : Proc) → HaveNamesOfTheirOwn (place_rules path v p)
own_at_places path v whole.nil = own_at_place path v whole.nil
own_at_places path v (whole.parallel p q) = own_two path v v (whole.parallel p q) p q (own_at_places (first_of path) v p) (own_at_places (second_of path) v q)
own_at_places path v (whole.replicated p) = own_one path v v (whole.replicated p) p (own_at_places (first_of path) v p)
own_at_places path v (act a p) = own_one path v (scope_behind v a) (act a p) p (own_at_places (first_of path) (scope_behind v a) p)
own_at_places path v (whole.test t u p q) = own_two path v v (whole.test t u p q) p q (own_at_places (first_of path) v p) (own_at_places (second_of path) v q)
own_at_places path v (whole.lookup t x p q) = own_two path v (v ++ message_var x ∷ []) (whole.lookup t x p q) p q (own_at_places (first_of path) (v ++ message_var x ∷ []) p) (own_at_places (second_of path) v q)

-- the name of a place's rule has a `_`, that of the first rule hasn't

abbrev has_bar : List ℕ → Bool
has_bar [] = false
has_bar (c ∷ cs) = cond (c == 95) true (has_bar cs)

one_barred : {x a : Rule} → has_bar a.name ≡ true → Member x (a ∷ []) → has_bar x.name ≡ true
one_barred h Member.here = h
one_barred h (Member.later m) = elim m [ ]

two_barred : {x a b : Rule} → has_bar a.name ≡ true → has_bar b.name ≡ true → Member x (a ∷ b ∷ []) → has_bar x.name ≡ true
two_barred h k Member.here = h
two_barred h k (Member.later m) = one_barred k m

three_barred : {x a b c : Rule} → has_bar a.name ≡ true → has_bar b.name ≡ true → has_bar c.name ≡ true → Member x (a ∷ b ∷ c ∷ []) → has_bar x.name ≡ true
three_barred h k l Member.here = h
three_barred h k l (Member.later m) = two_barred k l m

barred : (path : List ℕ) (v : List Var) (p : Proc) (r : Rule) → Member r (own_rules path v p) → has_bar r.name ≡ true
barred path v whole.nil r m = one_barred refl m
barred path v (whole.parallel p q) r m = one_barred refl m
barred path v (whole.replicated p) r m = two_barred refl refl m
barred path v (whole.test t u p q) r m = two_barred refl refl m
barred path v (whole.lookup t x p q) r m = two_barred refl refl m
barred path v (act (action.new x) p) r m = one_barred refl m
barred path v (act (action.out t) p) r m = one_barred refl m
barred path v (act (action.send t u) p) r m = three_barred refl refl refl m
barred path v (act (action.input t) p) r m = one_barred refl m
barred path v (act (action.receive t u) p) r m = two_barred refl refl m
barred path v (act (action.event f) p) r m = one_barred refl m
barred path v (act (action.insert t u) p) r m = one_barred refl m
barred path v (act (action.delete t) p) r m = one_barred refl m
barred path v (act (action.lock t l) p) r m = one_barred refl m
barred path v (act (action.unlock t l) p) r m = one_barred refl m
barred path v (act (action.embedded l a e) p) r m = one_barred refl m

init_apart : (p : Proc) (r : Rule) → Member r (place_rules [] [] p) → init_rule.name ≡ r.name → ⊥
init_apart p r m e =
    let h = home [] p [] r m in
    let z : false ≡ true = ap has_bar e ∙ barred h.path h.scope h.body r h.own in
    cc

pub own_names : (p : Proc) → HaveNamesOfTheirOwn (rules_of p)
own_names p = (unnamed init_rule.name (place_rules [] [] p) (init_apart p), own_at_places [] [] p)
