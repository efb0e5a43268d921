-- The rules of a process are those of its places.
use Rattle.sap_translate.specs.Members.{Member}
use Rattle.sap_translate.proofs.Shared.Lookups.{member_left, member_right, member_cases, in_left, in_right}
use Rattle.sap_templates.specs.Places.{ScopedPlace, child, scope_handed_down, scoped_place_at}
use Rattle.sap_templates.specs.Templates.{first_of, init_rule, own_rules, place_rules, rules_of, second_of}
use Rattle.sap_process.specs.Scopes.{scope_behind}
use Rattle.sap_process.specs.Places.{place, places, places_from}
use Rattle.sap_process.specs.Proc.{Proc, act}
use Rattle.sap_process.specs.Sites.{message_var}
use Rattle.sap_rule.specs.declared.rule.Rule.{Rule}
use Rattle.sap_terms.specs.declared.var.Var.{Var}
use Rattle.std.specs.List.{flat_map}
use Rattle.std.proofs.lemmas.Grind.{flat_map-append}
use Rattle.std.proofs.Common.{◌≡◌, ℕ, zero, suc, List, [], ◌∷◌, ◌++◌, Option, Some, None, refl, sym, ap, subst, append_assoc, append-nil, ◌∙◌}
use Rattle.sap_process.specs.Proc as whole

abbrev rules_from : Option ScopedPlace → List Rule
rules_from None = []
rules_from (Some p) = place_rules p.path p.above p.body

place_rules_are : (path : List ℕ) (v : List Var) (p : Proc) → place_rules path v p ≡ own_rules path v p ++ (rules_from (child (place path v p) 1) ++ rules_from (child (place path v p) 2))
place_rules_are path v whole.nil = refl
place_rules_are path v (whole.parallel p q) = refl
place_rules_are path v (whole.test m n p q) = refl
place_rules_are path v (whole.lookup m x p q) = refl
place_rules_are path v (whole.replicated p) = ap (λ rs. own_rules path v (whole.replicated p) ++ rs) (sym (append-nil (place_rules (first_of path) v p)))
place_rules_are path v (act a p) = ap (λ rs. own_rules path v (act a p) ++ rs) (sym (append-nil (place_rules (first_of path) (scope_behind v a) p)))

child_in : (p q : ScopedPlace) (d : ℕ) (r : Rule) → child p d ≡ Some q → Member r (place_rules q.path q.above q.body) → Member r (place_rules p.path p.above p.body)
child_in p q zero r e m = absurd (cc)
child_in p q (suc zero) r e m =
    rw (place_rules_are p.path p.above p.body) (member_right (own_rules p.path p.above p.body) (member_left (rules_from (child p 2)) (subst (λ o. Member r (rules_from o)) (sym e) m)))
child_in p q (suc (suc zero)) r e m =
    rw (place_rules_are p.path p.above p.body) (member_right (own_rules p.path p.above p.body) (member_right (rules_from (child p 1)) (subst (λ o. Member r (rules_from o)) (sym e) m)))
child_in p q (suc (suc (suc d))) r e m = absurd (cc)

-- the rules of a place are rules of the process
pub own_in : (top : ScopedPlace) (path : List ℕ) (b : ScopedPlace) (r : Rule) → scoped_place_at (Some top) path ≡ Some b → Member r (own_rules b.path b.above b.body) → Member r (place_rules top.path top.above top.body)
own_in top [] b r e m =
    let same : top ≡ b = some_same top b e in
    subst (λ (z : ScopedPlace). Member r (place_rules z.path z.above z.body)) (sym same) (rw (place_rules_are b.path b.above b.body) (member_left {xs = own_rules b.path b.above b.body} _ m))
  where
    some_same : (x y : ScopedPlace) → Some x ≡ Some y → x ≡ y
    some_same x y g = cc
own_in top (d ∷ path) b r e m = go (child top d) refl e (λ kid g. own_in kid path b r g m)
  where
    go : (o : Option ScopedPlace) → child top d ≡ o → scoped_place_at o path ≡ Some b → ((kid : ScopedPlace) → scoped_place_at (Some kid) path ≡ Some b → Member r (place_rules kid.path kid.above kid.body)) → Member r (place_rules top.path top.above top.body)
    go None h g more = absurd (cc)
    go (Some kid) h g more = child_in top kid d r h (more kid g)

-- where a rule of a process comes from
pub record Home (prefix : List ℕ) (v : List Var) (p : Proc) (r : Rule) : Type 0 where
  pub path : List ℕ
  pub scope : List Var
  pub body : Proc
  pub is : scoped_place_at (Some (place prefix v p)) path ≡ Some (place (prefix ++ path) scope body)
  pub own : Member r (own_rules (prefix ++ path) scope body)

home_here : (v : List Var) (p : Proc) (prefix : List ℕ) (r : Rule) → Member r (own_rules prefix v p) → Home prefix v p r
home_here v p prefix r m = record { path = []; scope = v; body = p; is = ap (λ k. Some (place k v p)) (sym (append-nil prefix)); own = rw append-nil m }

home_below : (v w : List Var) (p q : Proc) (d : ℕ) (prefix : List ℕ) (r : Rule) → child (place prefix v p) d ≡ Some (place (prefix ++ d ∷ []) w q) → Home (prefix ++ d ∷ []) w q r → Home prefix v p r
home_below v w p q d prefix r e h = record {
  path = d ∷ h.path;
  scope = h.scope;
  body = h.body;
  is = subst (λ o. scoped_place_at o h.path ≡ Some (place (prefix ++ d ∷ h.path) h.scope h.body)) (sym e) (rw append_assoc at h.is);
  own = rw append_assoc at h.own;
}

home_one : (v w : List Var) (p q : Proc) (prefix : List ℕ) (r : Rule) → child (place prefix v p) 1 ≡ Some (place (first_of prefix) w q) → (Member r (place_rules (first_of prefix) w q) → Home (first_of prefix) w q r) → Member r (own_rules prefix v p ++ place_rules (first_of prefix) w q) → Home prefix v p r
home_one v w p q prefix r e more m =
    elim (member_cases (own_rules prefix v p) (place_rules (first_of prefix) w q) m) [
      | in_left a ↦ home_here v p prefix r a
      | in_right b ↦ home_below v w p q 1 prefix r e (more b)
    ]

home_two : (v u : List Var) (b p q : Proc) (prefix : List ℕ) (r : Rule) → child (place prefix v b) 1 ≡ Some (place (first_of prefix) u p) → child (place prefix v b) 2 ≡ Some (place (second_of prefix) v q) → (Member r (place_rules (first_of prefix) u p) → Home (first_of prefix) u p r) → (Member r (place_rules (second_of prefix) v q) → Home (second_of prefix) v q r) → Member r (own_rules prefix v b ++ (place_rules (first_of prefix) u p ++ place_rules (second_of prefix) v q)) → Home prefix v b r
home_two v u b p q prefix r e f one two m =
    elim (member_cases (own_rules prefix v b) (place_rules (first_of prefix) u p ++ place_rules (second_of prefix) v q) m) [
      | in_left a ↦ home_here v b prefix r a
      | in_right h ↦ elim (member_cases (place_rules (first_of prefix) u p) (place_rules (second_of prefix) v q) h) [
        | in_left a ↦ home_below v u b p 1 prefix r e (one a)
        | in_right c ↦ home_below v v b q 2 prefix r f (two c)
      ]
    ]

pub home : (v : List Var) (p : Proc) (prefix : List ℕ) (r : Rule) → Member r (place_rules prefix v p) → Home prefix v p r
home v whole.nil prefix r m = home_here v whole.nil prefix r m
home v (whole.parallel p q) prefix r m = home_two v v (whole.parallel p q) p q prefix r refl refl (home v p (first_of prefix) r) (home v q (second_of prefix) r) m
home v (whole.test x y p q) prefix r m = home_two v v (whole.test x y p q) p q prefix r refl refl (home v p (first_of prefix) r) (home v q (second_of prefix) r) m
home v (whole.lookup x y p q) prefix r m = home_two v (v ++ message_var y ∷ []) (whole.lookup x y p q) p q prefix r refl refl (home (v ++ message_var y ∷ []) p (first_of prefix) r) (home v q (second_of prefix) r) m
home v (whole.replicated p) prefix r m = home_one v v (whole.replicated p) p prefix r refl (home v p (first_of prefix) r) m
home v (act a p) prefix r m = home_one v (scope_behind v a) (act a p) p prefix r refl (home (scope_behind v a) p (first_of prefix) r) m

abbrev rules_at : ScopedPlace → List Rule
rules_at a = own_rules a.path a.above a.body

of_two : (xs : List Rule) (ys zs : List ScopedPlace) (one two : List Rule) → one ≡ flat_map rules_at ys → two ≡ flat_map rules_at zs → xs ++ (one ++ two) ≡ xs ++ flat_map rules_at (ys ++ zs)
of_two xs ys zs one two e f = ap (λ rs. xs ++ (rs ++ two)) e ∙ ap (λ rs. xs ++ (flat_map rules_at ys ++ rs)) f ∙ ap (λ rs. xs ++ rs) (sym (flat_map-append rules_at ys zs))

-- the rules from a place on are those of the places from it on
rules_of_places : (path : List ℕ) (v : List Var) (p : Proc) → place_rules path v p ≡ flat_map rules_at (places_from scope_handed_down path v p)
rules_of_places path v whole.nil = sym (append-nil (own_rules path v whole.nil))
rules_of_places path v (whole.parallel p q) =
    of_two (own_rules path v (whole.parallel p q)) (places_from scope_handed_down (first_of path) v p) (places_from scope_handed_down (second_of path) v q) (place_rules (first_of path) v p) (place_rules (second_of path) v q)
    (rules_of_places (first_of path) v p) (rules_of_places (second_of path) v q)
rules_of_places path v (whole.replicated p) = ap (λ rs. own_rules path v (whole.replicated p) ++ rs) (rules_of_places (first_of path) v p)
rules_of_places path v (act a p) = ap (λ rs. own_rules path v (act a p) ++ rs) (rules_of_places (first_of path) (scope_behind v a) p)
rules_of_places path v (whole.test t u p q) =
    of_two (own_rules path v (whole.test t u p q)) (places_from scope_handed_down (first_of path) v p) (places_from scope_handed_down (second_of path) v q) (place_rules (first_of path) v p) (place_rules (second_of path) v q)
    (rules_of_places (first_of path) v p) (rules_of_places (second_of path) v q)
rules_of_places path v (whole.lookup t x p q) =
    let w = v ++ message_var x ∷ [] in
    of_two (own_rules path v (whole.lookup t x p q)) (places_from scope_handed_down (first_of path) w p) (places_from scope_handed_down (second_of path) v q) (place_rules (first_of path) w p) (place_rules (second_of path) v q)
    (rules_of_places (first_of path) w p) (rules_of_places (second_of path) v q)

-- so are the rules of a process
pub rules_go_by_places : (p : Proc) → rules_of p ≡ init_rule ∷ flat_map (λ (a : ScopedPlace). own_rules a.path a.above a.body) (places scope_handed_down [] p)
rules_go_by_places p = ap (λ rs. init_rule ∷ rs) (rules_of_places [] [] p)
