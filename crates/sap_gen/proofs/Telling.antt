-- Names of rules tell which are silent, and the takers tell rightly of each fact on right sides.
use Rattle.std.proofs.Common.{◌≡◌, ◌<◌, ◌≤◌, ◌+◌, ◌-◌, ◌*◌, ◌^◌, ℕ, zero, suc, Bool, true, false, List, [], ◌∷◌, ◌++◌, length, Option, Some, None, MatchOption, map, refl, if◌then◌else◌, bytes_eq, slice_get, sym, ap, subst, ◌∙◌, ◌⊎◌, inl, inr, lit<, arith}
use Rattle.std.proofs.Math.Nat.{pow-succ'}
use Rattle.std.specs.Prelude.{All, Contains}
use Rattle.std.proofs.lemmas.List.Elements.{All-nil, All-cons, All-contains}
use Rattle.std.proofs.lemmas.Option.{same_Some, slice_get_within}
use Rattle.sap_terms.proofs.PlainLaws.Items.{cons_cases, contains_got, got_contained}
use Rattle.sap_terms.specs.AdversaryFacts.{out_fact}
use Rattle.sap_terms.specs.NameMap.{value_at}
use Rattle.sap_terms.specs.Signature.{Sig}
use Rattle.sap_terms.specs.Tree.{variable}
use Rattle.sap_terms.specs.declared.fact.Fact.{Fact}
use Rattle.sap_terms.specs.declared.var.Var.{Var}
use Rattle.sap_formula.specs.Truth.{EachIn}
use Rattle.sap_place.specs.StateFacts.{copies_fact, digits}
use Rattle.sap_process.specs.Action as action
use Rattle.sap_process.specs.Action.{out}
use Rattle.sap_process.specs.Places.{place}
use Rattle.sap_process.specs.Proc.{Proc, nil, parallel, replicated, act, test, lookup}
use Rattle.sap_rule.specs.declared.rule.Rule.{Rule}
use Rattle.sap_translate.specs.PlaceRules.{IsOfPlace}
use Rattle.sap_templates.specs.Places.{root, scoped_place_at}
use Rattle.sap_translate.specs.Sound.{SoundPlaces}
use Rattle.sap_templates.specs.Templates.{state, own_rules, init_rule, rules_of, nil_rule, out_rule, parallel_rule, rep_start_rule}
use Rattle.sap_translate.specs.relation.Names.{state_name}
use Rattle.sap_translate.specs.relation.Totals.{total}
use Rattle.sap_translate.proofs.Shared.Facts.{names_apart}
use Rattle.sap_gen.specs.Moves.{AreAsTaken, IsAsTaken, Move}
use Rattle.sap_gen.specs.Silent.{silent_rule, IsSilentRule}
use Rattle.sap_silent.specs.SilentNames.{is_silent_name}
use Rattle.sap_gen.specs.code.Takers.{AreTakers, NamesTell, taken_first, taken_name}
use Rattle.sap_gen.specs.code.Walks.{IsTakenBy, IsToldRight, Takers, TellRight, cost, cost_at, name_bytes}
use Rattle.sap_gen.proofs.Places.Finding.{OwnMove, moves_of, own_found}
use Rattle.sap_gen.proofs.Places.Settling.{silent_left}
use Rattle.sap_gen.proofs.Places.Shortening.{fitting, silent_placed}

-- sums

pub total_has : {A : Type 0} (w : A → ℕ) (xs : List A) (x : A) → Contains xs x → w x ≤ total w xs
total_has w [] x c = absurd (omega (arith, c.1))
total_has w (y ∷ ys) x c = go (λ m. total_has w ys x m) (cons_cases y ys x c) where
  go : (Contains ys x → w x ≤ total w ys) → (y ≡ x) ⊎ Contains ys x → w x ≤ total w (y ∷ ys)
  go later (inl e) = let same = ap w e in omega arith
  go later (inr m) = let less = later m in omega arith

power_up : (n : ℕ) → 4 ^ suc n ≡ 4 * 4 ^ n
power_up n = pow-succ' 4 n

some_power : (n : ℕ) → 1 ≤ 4 ^ n
some_power zero = lit< tt
some_power (suc n) = let before = some_power n in let step = power_up n in omega arith

digits_longer : (path : List ℕ) (e : ℕ) → length (digits (path ++ e ∷ [])) ≡ suc (length (digits path))
digits_longer [] e = refl
digits_longer (d ∷ path) e = ap suc (digits_longer path e)

-- the name of a silent rule, and of what it takes
silent_name : (path : List ℕ) (v : List Var) (b : Proc) (q : Rule) → silent_rule path v b ≡ Some q → taken_name q ≡ Some (state_name path)
silent_name path v nil q e = ap taken_name (sym (same_Some (nil_rule path v) q e))
silent_name path v (parallel a b) q e = ap taken_name (sym (same_Some (parallel_rule path v) q e))
silent_name path v (replicated a) q e = ap taken_name (sym (same_Some (rep_start_rule path v) q e))
silent_name path v (act (out t) a) q e = ap taken_name (sym (same_Some (out_rule path v t) q e))
silent_name path v _ q e = cc

-- a rule of a place whose name is that of a silent rule is silent
module _ (p : Proc) where
  -- so it is with a rule
  abbrev IsToldByName : Rule → Type 0
  IsToldByName r = is_silent_name r.name ≡ true → IsSilentRule p r

  one : (r : Rule) → IsToldByName r → All IsToldByName (r ∷ [])
  one r f = All-cons IsToldByName r [] f (All-nil IsToldByName)

  -- of a rule with another name there is nothing to show
  other : (r : Rule) → is_silent_name r.name ≡ false → IsToldByName r
  other r f t = cc

  two : (r s : Rule) → IsToldByName r → IsToldByName s → All IsToldByName (r ∷ s ∷ [])
  two r s f h = All-cons IsToldByName r (s ∷ []) f (one s h)

  three : (r s t : Rule) → IsToldByName r → IsToldByName s → IsToldByName t → All IsToldByName (r ∷ s ∷ t ∷ [])
  three r s t f h k = All-cons IsToldByName r (s ∷ t ∷ []) f (two s t h k)

  module _ (path : List ℕ) (v : List Var) where
    action_told : (a : action.Action) (c : Proc) → scoped_place_at (root p) path ≡ Some (place path v (act a c)) → All IsToldByName (own_rules path v (act a c))
    action_told (action.new x) c at = one _ (other _ refl)
    action_told (action.out t) c at = one _ (λ s. record { path = path; scope = v; body = act (action.out t) c; stands = at; is = refl })
    action_told (action.send t u) c at = three _ _ _ (other _ refl) (other _ refl) (other _ refl)
    action_told (action.input t) c at = one _ (other _ refl)
    action_told (action.receive t u) c at = two _ _ (other _ refl) (other _ refl)
    action_told (action.event f) c at = one _ (other _ refl)
    action_told (action.insert t u) c at = one _ (other _ refl)
    action_told (action.delete t) c at = one _ (other _ refl)
    action_told (action.lock t l) c at = one _ (other _ refl)
    action_told (action.unlock t l) c at = one _ (other _ refl)
    action_told (action.embedded l e r) c at = one _ (other _ refl)

    own_told : (b : Proc) → scoped_place_at (root p) path ≡ Some (place path v b) → All IsToldByName (own_rules path v b)
    own_told nil at = one _ (λ s. record { path = path; scope = v; body = nil; stands = at; is = refl })
    own_told (parallel a b) at = one _ (λ s. record { path = path; scope = v; body = parallel a b; stands = at; is = refl })
    own_told (replicated a) at = two _ _ (λ s. record { path = path; scope = v; body = replicated a; stands = at; is = refl }) (other _ refl)
    own_told (act a c) at = action_told a c at
    own_told (test t u a b) at = two _ _ (other _ refl) (other _ refl)
    own_told (lookup t x a b) at = two _ _ (other _ refl) (other _ refl)

  place_told : (r : Rule) → IsOfPlace p r → IsToldByName r
  place_told r o = All-contains IsToldByName (own_rules o.path o.scope o.body) r (own_told o.path o.scope o.body o.stands) o.own

-- a rule of which the code reads off what it takes has the name of a silent one
named_silent : (r : Rule) (n : List ℕ) → taken_name r ≡ Some n → is_silent_name r.name ≡ true
named_silent r n e = go (is_silent_name r.name) e where
  go : (b : Bool) → (if b then taken_first r.left else None) ≡ Some n → b ≡ true
  go true e = refl
  go false e = cc

-- and a silent rule has such a name
silent_yes : (p : Proc) (q : Rule) → IsSilentRule p q → is_silent_name q.name ≡ true
silent_yes p q x = named_silent q (state_name x.path) (silent_name x.path x.scope x.body q x.is)

module _ (g : Sig) (p : Proc) (sound : SoundPlaces g p)
    (origin : (r : Rule) → Contains (rules_of p) r → (r ≡ init_rule) ⊎ IsOfPlace p r) (placed : (r : Rule) → IsOfPlace p r → Contains (rules_of p) r) where
  told_by_name : (r : Rule) → Contains (rules_of p) r → is_silent_name r.name ≡ true → IsSilentRule p r
  told_by_name r c t = go (origin r c) where
    go : (r ≡ init_rule) ⊎ IsOfPlace p r → IsSilentRule p r
    go (inl e) = let no : true ≡ false = sym t ∙ ap (λ (q : Rule). is_silent_name q.name) e in cc
    go (inr o) = place_told p r o t

  module _ (takers : Takers) (known : AreTakers (rules_of p) (length (rules_of p)) takers) where
    abbrev most : ℕ
    most = name_bytes (rules_of p)

    abbrev price : Fact → ℕ
    price f = cost (rules_of p) takers f

    -- what is told of a name is the silent rule of a place with this name
    record IsOfName (n : List ℕ) (k : ℕ) : Type 0 where
      rule : Rule
      at : slice_get (rules_of p) k ≡ Some rule
      silent : IsSilentRule p rule
      name : state_name silent.path ≡ n

    told_name : (n : List ℕ) (k : ℕ) → value_at takers n ≡ Some k → IsOfName n k
    told_name n k e =
        let s = known.sound n k e in
        let x = told_by_name s.0 (contains_got (rules_of p) s.0 k s.1) (named_silent s.0 n s.2) in
        record {
          rule = s.0;
          at = s.1;
          silent = x;
          name = same_Some (state_name x.path) n (sym (silent_name x.path x.scope x.body s.0 x.is) ∙ s.2);
        }

    -- no other fact costs more than 1
    plain_price : (f : Fact) → ((path : List ℕ) → bytes_eq (state_name path) f.name ≡ false) → price f ≡ 1
    plain_price f h = go (value_at takers f.name) refl where
      go : (o : Option ℕ) → value_at takers f.name ≡ o → cost_at most o f.name ≡ 1
      go None e = refl
      go (Some k) e = let s = told_name f.name k e in absurd (names_apart (state_name s.silent.path) f.name (h s.silent.path) s.name)

    -- a child's state fact costs a quarter of its parent's at most
    child_price : (path : List ℕ) (e : ℕ) (w : List Var) → length (state_name path) ≤ most → price (state (path ++ e ∷ []) w) ≤ 4 ^ (most - length (state_name path))
    child_price path e w within = go (value_at takers (state_name (path ++ e ∷ []))) where
      longer : length (state_name (path ++ e ∷ [])) ≡ suc (length (state_name path))
      longer = ap (λ n. suc (suc (suc (suc (suc (suc n)))))) (digits_longer path e)

      go : (o : Option ℕ) → cost_at most o (state_name (path ++ e ∷ [])) ≤ 4 ^ (most - length (state_name path))
      go None = some_power (most - length (state_name path))
      go (Some k) =
          let exponent : suc most - length (state_name (path ++ e ∷ [])) ≡ most - length (state_name path) = omega (arith, longer) in
          let same = ap (λ n. 4 ^ n) exponent in
          omega arith

    -- what a silent rule adds costs less than what it takes
    right_price : (path : List ℕ) (v : List Var) (b : Proc) (q : Rule) → silent_rule path v b ≡ Some q → length (state_name path) ≤ most
        → total price q.right < 4 ^ (suc most - length (state_name path))
    right_price path v b q e within = go b e where
      y : ℕ
      y = 4 ^ (most - length (state_name path))

      some : 1 ≤ y
      some = some_power (most - length (state_name path))

      whole : 4 ^ (suc most - length (state_name path)) ≡ 4 * y
      whole = let exponent : suc most - length (state_name path) ≡ suc (most - length (state_name path)) = omega arith in ap (λ n. 4 ^ n) exponent ∙ power_up (most - length (state_name path))

      by : (r : Rule) → r ≡ q → total price r.right < 4 * y → total price q.right < 4 ^ (suc most - length (state_name path))
      by r same less = let rights = ap (λ (r : Rule). total price r.right) same in omega (arith, whole)

      go : (b : Proc) → silent_rule path v b ≡ Some q → total price q.right < 4 ^ (suc most - length (state_name path))
      go nil e = by (nil_rule path v) (same_Some (nil_rule path v) q e) (omega (arith, some))
      go (parallel a b) e =
          let first = child_price path 1 v within in
          let second = child_price path 2 v within in
          by (parallel_rule path v) (same_Some (parallel_rule path v) q e) (omega (arith, some, first, second))
      go (replicated a) e =
          let one = plain_price (copies_fact path (map variable v)) (λ z. refl) in
          by (rep_start_rule path v) (same_Some (rep_start_rule path v) q e) (omega (arith, some, one))
      go (act (out t) a) e =
          let one = plain_price (out_fact t) (λ z. refl) in
          let first = child_price path 1 v within in
          by (out_rule path v t) (same_Some (out_rule path v t) q e) (omega (arith, some, one, first))
      go _ e = cc

    -- the takers tell rightly of a fact as it stands on right sides
    told : (f : Fact) → IsAsTaken (moves_of g p sound) f → IsToldRight p (rules_of p) takers f
    told f right = go (value_at takers f.name) refl where
      untaken : value_at takers f.name ≡ None → (q : Rule) → IsSilentRule p q → q.left ≡ f ∷ [] → ⊥
      untaken e q x l =
          let there = got_contained (rules_of p) q (placed q (silent_placed p q x)) in
          let lists : (state x.path x.scope ∷ []) ≡ (f ∷ []) = sym (silent_left x.path x.scope x.body q x.is) ∙ l in
          let one : state x.path x.scope ≡ f = cc in
          let name : taken_name q ≡ Some f.name = silent_name x.path x.scope x.body q x.is ∙ ap (λ (h : Fact). Some h.name) one in
          known.complete there.0 q f.name (slice_get_within (rules_of p) there.0 q there.1) there.1 name e

      -- the fact is what the rule takes
      is_state : (k : ℕ) (s : IsOfName f.name k) → f ≡ state s.silent.path s.silent.scope
      is_state k s = by (own_found g p sound s.silent.path s.silent.scope s.silent.body s.rule s.silent.stands s.silent.is) right where
        by : OwnMove g p sound s.silent.path s.silent.scope s.rule → IsAsTaken (moves_of g p sound) f → f ≡ state s.silent.path s.silent.scope
        by own (inl none) = let clash : Some own.own ≡ None = sym own.is ∙ ap (moves_of g p sound) s.name ∙ none in cc
        by own (inr m) =
            let same = same_Some m.0 own.own (sym m.1 ∙ ap (moves_of g p sound) (sym s.name) ∙ own.is) in
            m.2 ∙ ap (λ (z : Move (IsSilentRule p)). z.shape.state) same ∙ own.state_is

      taken : (k : ℕ) → value_at takers f.name ≡ Some k → IsTakenBy p (rules_of p) takers f k
      taken k e =
          let s = told_name f.name k e in
          let x = s.silent in
          let is = is_state k s in
          let left : s.rule.left ≡ state x.path x.scope ∷ [] = silent_left x.path x.scope x.body s.rule x.is in
          let sum : total (λ (f : Fact). length f.name) s.rule.left ≡ length (state_name x.path) + 0 = ap (total (λ (f : Fact). length f.name)) left in
          let bound = total_has (λ (r : Rule). total (λ (f : Fact). length f.name) r.left) (rules_of p) s.rule (contains_got (rules_of p) s.rule k s.at) in
          let within : length (state_name x.path) ≤ most = omega (arith, sum, bound) in
          let price_is : price f ≡ 4 ^ (suc most - length (state_name x.path)) = ap (λ o. cost_at most o f.name) e ∙ ap (λ n. 4 ^ (suc most - length n)) (sym s.name) in
          let less = right_price x.path x.scope x.body s.rule x.is within in
          record {
            rule = s.rule;
            at = s.at;
            silent = x;
            takes = left ∙ ap (λ h. h ∷ []) (sym is);
            cheaper = subst (λ n. total price s.rule.right < n) (sym price_is) less;
          }

      go : (o : Option ℕ) → value_at takers f.name ≡ o → MatchOption o ((q : Rule) → IsSilentRule p q → q.left ≡ f ∷ [] → ⊥) (λ k. IsTakenBy p (rules_of p) takers f k)
      go None e = untaken e
      go (Some k) e = taken k e

    each_told : (fs : List Fact) → AreAsTaken (moves_of g p sound) fs → EachIn (IsToldRight p (rules_of p) takers) fs
    each_told [] a = tt
    each_told (f ∷ fs) a = (told f a.0, each_told fs a.1)

    tell_right : TellRight p (rules_of p) takers
    tell_right k r at = each_told r.right (fitting g p sound origin placed r (contains_got (rules_of p) r k at)).right

  -- names tell of the rules of a process
  pub names_tell : NamesTell p (rules_of p)
  names_tell = record {
    yes = λ k r at t. told_by_name r (contains_got (rules_of p) r k at) t;
    no = λ k r at f x. let clash : true ≡ false = sym (silent_yes p r x) ∙ f in cc;
    takers = λ takers known. tell_right takers known;
  }
