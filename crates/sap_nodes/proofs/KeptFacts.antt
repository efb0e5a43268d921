-- What is noted of facts tells exactly whether the next one differs from one of them.
use Rattle.std.proofs.Common.{◌≡◌, ℕ, List, [], ◌∷◌, ◌++◌, Bool, true, false, Option, Some, None, inl, inr, length, map, nat_eq, refl, sym, ap, subst, ◌∙◌}
use Rattle.std.specs.Prelude.{◌⊎◌, ◌&&◌, ◌||◌, not, Contains, is_some, if◌then◌else◌}
use Rattle.std.specs.Str.{bytes_eq}
use Rattle.std.proofs.lemmas.Bool.Decides.{Decides-eqb}
use Rattle.std.proofs.lemmas.List.{append_assoc, append-nil}
use Rattle.sap_terms.specs.Signature.{same_bool}
use Rattle.sap_terms.specs.declared.fact.Fact.{Fact}
use Rattle.sap_terms.proofs.PlainLaws.Items.{first_item, later_item, cons_cases}
use Rattle.sap_terms.proofs.PlainLaws.Known.{one_name, own_name, clash}
use Rattle.sap_process.specs.Flaws.{HasOtherArity, HasOtherForm}
use Rattle.sap_nodes.specs.FlawNodes.{Differs}
use Rattle.sap_nodes.specs.code.Clashes.{noted_of, is_same, first_of, clash_with, is_clash, noted_with, noted, noted_all}
use Rattle.sap_nodes.specs.declared.clash.Met.{Met}
use Rattle.sap_nodes.specs.declared.clash.Noted.{Noted}
use Rattle.sap_nodes.proofs.HeadMembers.{none_of}

-- facts of one name that differ
abbrev differ : Noted → Noted → Bool
differ x y = bytes_eq x.name y.name && not (is_same x y)

-- one of these does
abbrev pub clashes : List Noted → Noted → Bool
clashes [] y = false
clashes (x ∷ xs) y = differ x y || clashes xs y

clashes-push : (xs : List Noted) (x y : Noted) → clashes (xs ++ x ∷ []) y ≡ (clashes xs y || (differ x y || false))
clashes-push [] x y = refl
clashes-push (z ∷ zs) x y = by (differ z y) (clashes-push zs x y) where
  by : (b : Bool) → clashes (zs ++ x ∷ []) y ≡ (clashes zs y || (differ x y || false)) → (b || clashes (zs ++ x ∷ []) y) ≡ ((b || clashes zs y) || (differ x y || false))
  by true later = refl
  by false later = later

-- the first of a name, where one more stands last
push_other : (xs : List Noted) (x : Noted) (n : List ℕ) → bytes_eq x.name n ≡ false → first_of (xs ++ x ∷ []) n ≡ first_of xs n
push_other [] x n e = rw e refl
push_other (z ∷ zs) x n e = by (bytes_eq z.name n) (push_other zs x n e) where
  by : (b : Bool) → first_of (zs ++ x ∷ []) n ≡ first_of zs n → (if b then Some z else first_of (zs ++ x ∷ []) n) ≡ (if b then Some z else first_of zs n)
  by true later = refl
  by false later = later

push_own : (xs : List Noted) (x : Noted) (n : List ℕ) → bytes_eq x.name n ≡ true → first_of xs n ≡ None → first_of (xs ++ x ∷ []) n ≡ Some x
push_own [] x n e none = rw e refl
push_own (z ∷ zs) x n e none = by (bytes_eq z.name n) none (push_own zs x n e) where
  by : (b : Bool) → (if b then Some z else first_of zs n) ≡ None → (first_of zs n ≡ None → first_of (zs ++ x ∷ []) n ≡ Some x)
      → (if b then Some z else first_of (zs ++ x ∷ []) n) ≡ Some x
  by true k later = cc
  by false k later = later k

push_some : (xs : List Noted) (x : Noted) (n : List ℕ) → bytes_eq x.name n ≡ true → is_some (first_of (xs ++ x ∷ []) n) ≡ true
push_some [] x n e = rw e refl
push_some (z ∷ zs) x n e = by (bytes_eq z.name n) (push_some zs x n e) where
  by : (b : Bool) → is_some (first_of (zs ++ x ∷ []) n) ≡ true → is_some (if b then Some z else first_of (zs ++ x ∷ []) n) ≡ true
  by true later = refl
  by false later = later

-- what two have in common
same_true : (p q : Bool) → same_bool p q ≡ true → p ≡ q
same_true true q e = sym e
same_true false true e = cc
same_true false false e = refl

true_same : (p : Bool) → same_bool p p ≡ true
true_same true = refl
true_same false = refl

left_true : (p q : Bool) → (p && q) ≡ true → p ≡ true
left_true true q e = refl
left_true false q e = e

right_true : (p q : Bool) → (p && q) ≡ true → q ≡ true
right_true true q e = e
right_true false q e = cc

arity_of : (x y : Noted) → is_same x y ≡ true → x.arity ≡ y.arity
arity_of x y e = (Decides-eqb x.arity y.arity).0 (left_true (nat_eq x.arity y.arity) (same_bool x.persistent y.persistent) e)

form_of : (x y : Noted) → is_same x y ≡ true → x.persistent ≡ y.persistent
form_of x y e = same_true x.persistent y.persistent (right_true (nat_eq x.arity y.arity) (same_bool x.persistent y.persistent) e)

same_of : (x y : Noted) → x.arity ≡ y.arity → x.persistent ≡ y.persistent → is_same x y ≡ true
same_of x y e d =
    ap (λ b. b && same_bool x.persistent y.persistent) ((Decides-eqb x.arity y.arity).1 e)
    ∙ ap (λ p. same_bool x.persistent p) (sym d) ∙ true_same x.persistent

-- the first has all in common with this one, or with a third as this one has
same_left : (h x y : Noted) → is_same h x ≡ true → is_same x y ≡ is_same h y
same_left h x y e =
    ap (λ n. nat_eq n y.arity && same_bool x.persistent y.persistent) (sym (arity_of h x e))
    ∙ ap (λ p. nat_eq h.arity y.arity && same_bool p y.persistent) (sym (form_of h x e))

same_both : (h x y : Noted) → is_same h y ≡ true → is_same x y ≡ true → is_same h x ≡ true
same_both h x y e d = same_of h x (arity_of h y e ∙ sym (arity_of x y d)) (form_of h y e ∙ sym (form_of x y d))

-- what is noted tells of each fact whether one of these differs from it; and what differs from a first has one
pub record Kept (m : Met) (xs : List Noted) : Type 0 where
  pub tells : (y : Noted) → is_clash m y ≡ clashes xs y
  pub later : (n : List ℕ) → first_of m.firsts n ≡ None → first_of m.others n ≡ None

pub kept_none : Kept (record { firsts = []; others = [] }) []
kept_none = record { tells = λ y. refl; later = λ n e. refl }

other_name : (s old : Bool) → old ≡ (old || ((false && not s) || false))
other_name s true = refl
other_name s false = refl

new_name : (s old : Bool) → old ≡ false → (not s || false) ≡ (old || ((true && not s) || false))
new_name s true e = cc
new_name true false e = refl
new_name false false e = refl

same_again : (s k old : Bool) → old ≡ (not s || k) → old ≡ (old || ((true && not s) || false))
same_again s k true e = refl
same_again true k false e = refl
same_again false k false e = cc

other_again : (s t k old : Bool) → old ≡ (not s || k) → (s ≡ true → t ≡ true → ⊥) → (not s || true) ≡ (old || ((true && not t) || false))
other_again true true k old e apart = absurd (apart refl refl)
other_again true false k true e apart = refl
other_again true false k false e apart = refl
other_again false t k true e apart = refl
other_again false t k false e apart = cc

-- one fact more is noted
pub kept_more : (m : Met) (xs : List Noted) → Kept m xs → (x : Noted) → Kept (noted m x) (xs ++ x ∷ [])
kept_more m xs are x = by (first_of m.firsts x.name) refl where
  named : (y : Noted) → bytes_eq x.name y.name ≡ true → (o : Option Noted) → first_of m.firsts x.name ≡ o → first_of m.firsts y.name ≡ o
  named y d o e = subst (λ (n : List ℕ). first_of m.firsts n ≡ o) (one_name x.name y.name d) e

  -- none has the name
  first_tells : first_of m.firsts x.name ≡ None → (y : Noted) → is_clash (noted_with None m x) y ≡ clashes (xs ++ x ∷ []) y
  first_tells e y = at (bytes_eq x.name y.name) refl ∙ sym (clashes-push xs x y) where
    at : (b : Bool) → bytes_eq x.name y.name ≡ b → is_clash (noted_with None m x) y ≡ (clashes xs y || ((b && not (is_same x y)) || false))
    at true d =
        let none = named y d None e in
        let old : clashes xs y ≡ false = sym (are.tells y) ∙ ap (λ o. clash_with o (is_some (first_of m.others y.name)) y) none in
        ap (λ o. clash_with o (is_some (first_of m.others y.name)) y) (push_own m.firsts x y.name d none)
        ∙ ap (λ o. not (is_same x y) || is_some o) (are.later y.name none) ∙ new_name (is_same x y) (clashes xs y) old
    at false d =
        ap (λ o. clash_with o (is_some (first_of m.others y.name)) y) (push_other m.firsts x y.name d) ∙ are.tells y ∙ other_name (is_same x y) (clashes xs y)

  first_later : (n : List ℕ) → first_of (m.firsts ++ x ∷ []) n ≡ None → first_of m.others n ≡ None
  first_later n e = at (bytes_eq x.name n) refl where
    at : (b : Bool) → bytes_eq x.name n ≡ b → first_of m.others n ≡ None
    at true d = let some = push_some m.firsts x n d in absurd (clash (is_some (first_of (m.firsts ++ x ∷ []) n)) some (ap is_some e))
    at false d = are.later n (sym (push_other m.firsts x n d) ∙ e)

  -- the first has, and all in common
  same_tells : (h : Noted) → first_of m.firsts x.name ≡ Some h → is_same h x ≡ true → (y : Noted) → is_clash m y ≡ clashes (xs ++ x ∷ []) y
  same_tells h e s y = at (bytes_eq x.name y.name) refl ∙ sym (clashes-push xs x y) where
    at : (b : Bool) → bytes_eq x.name y.name ≡ b → is_clash m y ≡ (clashes xs y || ((b && not (is_same x y)) || false))
    at true d =
        are.tells y
        ∙ same_again (is_same x y) (is_some (first_of m.others y.name)) (clashes xs y)
        (sym (are.tells y) ∙ ap (λ o. clash_with o (is_some (first_of m.others y.name)) y) (named y d (Some h) e)
        ∙ ap (λ b. not b || is_some (first_of m.others y.name)) (sym (same_left h x y s)))
    at false d = are.tells y ∙ other_name (is_same x y) (clashes xs y)

  -- the first has, and differs
  other_tells : (h : Noted) → first_of m.firsts x.name ≡ Some h → is_same h x ≡ false → (y : Noted)
      → is_clash (record { firsts = m.firsts; others = m.others ++ x ∷ [] }) y ≡ clashes (xs ++ x ∷ []) y
  other_tells h e s y = at (bytes_eq x.name y.name) refl ∙ sym (clashes-push xs x y) where
    at : (b : Bool) → bytes_eq x.name y.name ≡ b
        → is_clash (record { firsts = m.firsts; others = m.others ++ x ∷ [] }) y ≡ (clashes xs y || ((b && not (is_same x y)) || false))
    at true d =
        ap (λ o. clash_with o (is_some (first_of (m.others ++ x ∷ []) y.name)) y) (named y d (Some h) e)
        ∙ ap (λ k. not (is_same h y) || k) (push_some m.others x y.name d)
        ∙ other_again (is_same h y) (is_same x y) (is_some (first_of m.others y.name)) (clashes xs y)
        (sym (are.tells y) ∙ ap (λ o. clash_with o (is_some (first_of m.others y.name)) y) (named y d (Some h) e))
        (λ p q. clash (is_same h x) (same_both h x y p q) s)
    at false d =
        ap (λ o. clash_with (first_of m.firsts y.name) (is_some o) y) (push_other m.others x y.name d) ∙ are.tells y ∙ other_name (is_same x y) (clashes xs y)

  other_later : (h : Noted) → first_of m.firsts x.name ≡ Some h → (n : List ℕ) → first_of m.firsts n ≡ None → first_of (m.others ++ x ∷ []) n ≡ None
  other_later h e n none = at (bytes_eq x.name n) refl where
    at : (b : Bool) → bytes_eq x.name n ≡ b → first_of (m.others ++ x ∷ []) n ≡ None
    at true d = let here = subst (λ (k : List ℕ). first_of m.firsts k ≡ Some h) (one_name x.name n d) e in absurd (cc)
    at false d = push_other m.others x n d ∙ are.later n none

  known : (h : Noted) → first_of m.firsts x.name ≡ Some h → (b : Bool) → is_same h x ≡ b
      → Kept (if b then m else record { firsts = m.firsts; others = m.others ++ x ∷ [] }) (xs ++ x ∷ [])
  known h e true s = record { tells = same_tells h e s; later = are.later }
  known h e false s = record { tells = other_tells h e s; later = other_later h e }

  by : (o : Option Noted) → first_of m.firsts x.name ≡ o → Kept (noted_with o m x) (xs ++ x ∷ [])
  by None e = record { tells = first_tells e; later = first_later }
  by (Some h) e = known h e (is_same h x) refl

-- and these facts are
pub kept_all : (both : Bool) (m : Met) (xs : List Noted) → Kept m xs → (fs : List Fact) → Kept (noted_all both m fs) (xs ++ map (noted_of both) fs)
kept_all both m xs are [] = subst (Kept m) (sym (append-nil xs)) are
kept_all both m xs are (f ∷ fs) =
    subst (Kept (noted_all both (noted m (noted_of both f)) fs)) (append_assoc xs (noted_of both f ∷ []) (map (noted_of both) fs))
    (kept_all both (noted m (noted_of both f)) (xs ++ noted_of both f ∷ []) (kept_more m xs are (noted_of both f)) fs)

-- how facts of one kind differ
abbrev pub Differ : Bool → Fact → Fact → Type 0
Differ true = HasOtherForm
Differ false = HasOtherArity

unlike : (both : Bool) (h f : Fact) → is_same (noted_of both h) (noted_of both f) ≡ false → Differ both h f
unlike false h f e = λ d. clash (is_same (noted_of false h) (noted_of false f)) (same_of (noted_of false h) (noted_of false f) d refl) e
unlike true h f e = by (nat_eq (length h.args) (length f.args)) refl where
  by : (b : Bool) → nat_eq (length h.args) (length f.args) ≡ b → HasOtherForm h f
  by true d =
      inr (λ p. clash (is_same (noted_of true h) (noted_of true f))
      (same_of (noted_of true h) (noted_of true f) ((Decides-eqb (length h.args) (length f.args)).0 d) p) e)
  by false d = inl (λ p. clash (nat_eq (length h.args) (length f.args)) ((Decides-eqb (length h.args) (length f.args)).1 p) d)

alike : (both : Bool) (h f : Fact) → Differ both h f → is_same (noted_of both h) (noted_of both f) ≡ true → ⊥
alike false h f d e = d (arity_of (noted_of false h) (noted_of false f) e)
alike true h f (inl d) e = d (arity_of (noted_of true h) (noted_of true f) e)
alike true h f (inr d) e = d (form_of (noted_of true h) (noted_of true f) e)

pub clash_sound : (both : Bool) (fs : List Fact) (f : Fact) → clashes (map (noted_of both) fs) (noted_of both f) ≡ true → Differs (Differ both) fs f
clash_sound both [] f e = cc
clash_sound both (h ∷ fs) f e = by (bytes_eq h.name f.name) refl (is_same (noted_of both h) (noted_of both f)) refl e (clash_sound both fs f) where
  behind : Differs (Differ both) fs f → Differs (Differ both) (h ∷ fs) f
  behind r = record { other = r.other; stands = later_item h fs r.other r.stands; name = r.name; differs = r.differs }

  by : (b : Bool) → bytes_eq h.name f.name ≡ b → (s : Bool) → is_same (noted_of both h) (noted_of both f) ≡ s
      → ((b && not s) || clashes (map (noted_of both) fs) (noted_of both f)) ≡ true
      → (clashes (map (noted_of both) fs) (noted_of both f) ≡ true → Differs (Differ both) fs f) → Differs (Differ both) (h ∷ fs) f
  by true d false s k later = record { other = h; stands = first_item h fs; name = one_name h.name f.name d; differs = unlike both h f s }
  by true d true s k later = behind (later k)
  by false d s q k later = behind (later k)

pub clash_complete : (both : Bool) (fs : List Fact) (f : Fact) → Differs (Differ both) fs f → clashes (map (noted_of both) fs) (noted_of both f) ≡ true
clash_complete both [] f r = absurd (none_of r.other r.stands)
clash_complete both (h ∷ fs) f r = by (cons_cases h fs r.other r.stands) (clash_complete both fs f) where
  or_right : (b c : Bool) → c ≡ true → (b || c) ≡ true
  or_right true c e = refl
  or_right false c e = e

  here : h ≡ r.other → (b : Bool) → bytes_eq h.name f.name ≡ b → (s : Bool) → is_same (noted_of both h) (noted_of both f) ≡ s
      → ((b && not s) || clashes (map (noted_of both) fs) (noted_of both f)) ≡ true
  here e true d false s = refl
  here e true d true s = absurd (alike both h f (subst (λ (z : Fact). Differ both z f) (sym e) r.differs) s)
  here e false d s q =
      absurd (clash (bytes_eq h.name f.name)
      (subst (λ (n : List ℕ). bytes_eq h.name n ≡ true) (ap (λ (z : Fact). z.name) e ∙ r.name) (own_name h.name)) d)

  by : (h ≡ r.other) ⊎ Contains fs r.other → (Differs (Differ both) fs f → clashes (map (noted_of both) fs) (noted_of both f) ≡ true)
      → clashes (map (noted_of both) (h ∷ fs)) (noted_of both f) ≡ true
  by (inl e) later = here e (bytes_eq h.name f.name) refl (is_same (noted_of both h) (noted_of both f)) refl
  by (inr c) later =
      or_right (differ (noted_of both h) (noted_of both f)) (clashes (map (noted_of both) fs) (noted_of both f))
      (later (record { other = r.other; stands = c; name = r.name; differs = r.differs }))
