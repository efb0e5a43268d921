-- Uses of small rules, exactly, by hand.
use Rattle.std.proofs.Common.{◌≡◌, ℕ, zero, suc, List, [], ◌∷◌, false, Option, Some, None, refl, sym, ap, subst, ◌∙◌, slice_get}
use Rattle.std.specs.Prelude.{Contains, codes, if◌then◌else◌}
use Rattle.std.specs.List.{AllZip}
use Rattle.sap_rewrite.specs.Laws.{FormIsOne}
use Rattle.sap_terms.specs.AdversaryFacts.{linear}
use Rattle.sap_terms.specs.Choice.{Choice}
use Rattle.sap_terms.specs.Equal.{IsTheoryEqual, same, next, forward}
use Rattle.sap_terms.specs.Equations.{Equations, equations, first}
use Rattle.sap_terms.specs.Message.{IsMessage}
use Rattle.sap_terms.specs.Modulo.{IsEqualFact, AreEqualFacts, AreFormsOfFacts}
use Rattle.sap_terms.specs.Normal.{IsNormalForm}
use Rattle.sap_terms.specs.Piles.{Pile, Takes, nothing, one, used, adds}
use Rattle.sap_terms.specs.Signature.{Sig}
use Rattle.sap_terms.specs.Tree.{Tree}
use Rattle.sap_terms.specs.declared.fact.Fact.{Fact}
use Rattle.sap_terms.specs.declared.var.Sort.{Sort}
use Rattle.sap_rule.specs.RuleSteps.{RuleState, RuleStep, IsUse, makes_name, learns, owns, knows_public, applies, gives, uses}
use Rattle.sap_rule.specs.StepExamples.{a, b, x_of, pair, first_of, shown_fact, left_fact, right_fact, moving, taking_twice}
use Rattle.sap_rule.specs.declared.rule.Rule.{Rule}
use Rattle.sap_rule.proofs.ExactSteps.{never, alone}

-- the normal form of one fact of one argument
form_fact : FormIsOne → (e : Equations) (n : List ℕ) (t m : Tree) (fs : List Fact) → IsNormalForm e t m → AreFormsOfFacts e (linear n (t ∷ []) ∷ []) fs → fs ≡ linear n (m ∷ []) ∷ []
form_fact unique e n t m [] form h = absurd h
form_fact unique e n t m (f ∷ fs) form h = ap (λ xs. f ∷ xs) (rest fs h.1) ∙ ap (λ (x : Fact). x ∷ []) (λ i. record { name = h.0.name i; persistent = h.0.persistent i; args = args f.args h.0.args i })
  where
    rest : (xs : List Fact) → AreFormsOfFacts e [] xs → xs ≡ []
    rest [] k = refl
    rest (x ∷ xs) k = absurd k

    args : (ts : List Tree) → AllZip (IsNormalForm e) (t ∷ []) ts → ts ≡ m ∷ []
    args [] k = absurd k
    args (u ∷ []) k = ap (λ v. v ∷ []) (unique e t u m k.0 form)
    args (u ∷ v ∷ vs) k = absurd k.1

abbrev argument : Tree → List Fact → Tree
argument d (f ∷ fs) = of f.args
  where
    of : List Tree → Tree
    of (t ∷ ts) = t
    of [] = d
argument d [] = d

-- one fact, taken from a pile of one place
taken_only : {facts rest : Pile} {ks : List ℕ} {fs : List Fact} → Takes facts ks fs rest → (slot : Option Fact) (f : Fact) → facts ≡ slot ∷ [] → fs ≡ f ∷ [] → f.persistent ≡ false → (slot ≡ Some f) × (rest ≡ None ∷ [])
taken_only nothing slot f whole is linear = cc
taken_only {facts = facts} {rest = rest} (one {k = k} {ks = ks} {f = h} {fs = hs} at further) slot f whole is linear =
    by k (subst (λ fs. slice_get fs k ≡ Some (Some h)) whole at) (ended further last ∙ ap (λ fs. used fs k h) whole)
  where
    same_fact : h ≡ f
    same_fact = cc

    last : hs ≡ []
    last = cc

    ended : {facts rest : Pile} {ks : List ℕ} {fs : List Fact} → Takes facts ks fs rest → fs ≡ [] → rest ≡ facts
    ended nothing e = refl
    ended (one got tail) e = cc

    by : (k : ℕ) → slice_get (slot ∷ []) k ≡ Some (Some h) → rest ≡ used (slot ∷ []) k h → (slot ≡ Some f) × (rest ≡ None ∷ [])
    by zero got left =
        let there : slot ≡ Some h = cc in (
          there ∙ ap (λ x. Some x) same_fact,
          left ∙ ap (λ p. if p then slot ∷ [] else None ∷ []) (ap (λ (x : Fact). x.persistent) same_fact ∙ linear),
        )
    by (suc k) got left = cc

-- what a use of the moving rule did
abbrev pub Moved : Sig → Sort → Option Fact → RuleState → RuleState → Tree → Type 0
Moved g s slot start z u =
    IsMessage g s u × (z.facts ≡ None ∷ Some (right_fact u) ∷ []) × (z.known ≡ []) × (z.made ≡ start.made)
    × ((f : Fact) × (slot ≡ Some f) × (f.name ≡ codes "L") × (f.persistent ≡ false) × AllZip (IsTheoryEqual (equations g)) (u ∷ []) f.args)

-- what was taken, where the variable stands for v
abbrev Source : Sig → Option Fact → Pile → Tree → Type 0
Source g slot rest v =
    (rest ≡ None ∷ []) × ((f : Fact) × (slot ≡ Some f) × (f.name ≡ codes "L") × (f.persistent ≡ false) × AllZip (IsTheoryEqual (equations g)) (v ∷ []) f.args)

source : (g : Sig) (slot : Option Fact) (facts rest : Pile) (ks : List ℕ) (v : Tree) (left : List Fact) → facts ≡ slot ∷ [] → Takes facts ks left rest → AreEqualFacts (equations g) (left_fact v ∷ []) left → Source g slot rest v
source g slot facts rest ks v [] whole takes h = absurd h
source g slot facts rest ks v (f ∷ h ∷ hs) whole takes k = absurd k.1
source g slot facts rest ks v (f ∷ []) whole takes h =
    let at = taken_only takes slot f whole refl h.0.persistent in
    (at.1, (f, at.0, h.0.name, h.0.persistent, h.0.args))

by_use : FormIsOne → (g : Sig) (s : Sort) (slot : Option Fact) (start : RuleState) (u : Tree) (ks : List ℕ) (rest : Pile) (σ : Choice) (left acts right : List Fact)
    → start.facts ≡ slot ∷ [] → start.known ≡ [] → Takes start.facts ks left rest → IsUse g (moving s) σ left acts right → acts ≡ shown_fact u ∷ []
    → Moved g s slot start (record { facts = adds rest right; known = start.known; made = start.made }) u
by_use unique g s slot start u ks rest σ left acts right whole unknown takes by e =
    let v : Tree = σ (x_of s) in
    let form : IsNormalForm (equations g) (first_of (pair v b)) v = record { equal = next (forward first) same; normal = (by.messages (x_of s)).normal } in
    let shown : acts ≡ shown_fact v ∷ [] = form_fact unique (equations g) (codes "A") (first_of (pair v b)) v acts form by.shows in
    let is : v ≡ u = ap (argument a) (sym shown ∙ e) in
    let added : right ≡ right_fact v ∷ [] = form_fact unique (equations g) (codes "M") (first_of (pair v b)) v right form by.adds in
    let from = subst (λ t. Source g slot rest t) is (source g slot start.facts rest ks v left whole takes by.takes) in (
      subst (λ t. IsMessage g s t) is (by.messages (x_of s)),
      ap (λ fs. adds rest fs) (added ∙ ap (λ t. right_fact t ∷ []) is) ∙ ap (λ fs. adds fs (right_fact u ∷ [])) from.0,
      unknown,
      refl,
      from.1,
    )

pub moved : FormIsOne → (g : Sig) (srt : Sort) (slot : Option Fact) (rules : List Rule) (s z : RuleState) (acts : List Fact) (u : Tree) → RuleStep g rules s acts z → rules ≡ moving srt ∷ [] → s.facts ≡ slot ∷ [] → s.known ≡ [] → acts ≡ shown_fact u ∷ []
    → Moved g srt slot s z u
moved unique g srt slot rules s z acts u (makes_name m new) rs whole unknown e = absurd (let p : [] ≡ shown_fact u ∷ [] = e in cc)
moved unique g srt slot rules s z acts u (learns k t takes) rs whole unknown e = absurd (let p : [] ≡ shown_fact u ∷ [] = e in cc)
moved unique g srt slot rules s z acts u (owns k m takes) rs whole unknown e = absurd (let p : [] ≡ shown_fact u ∷ [] = e in cc)
moved unique g srt slot rules s z acts u (knows_public m) rs whole unknown e = absurd (let p : [] ≡ shown_fact u ∷ [] = e in cc)
moved unique g srt slot rules s z acts u (applies f ts t is_public arity known form) rs whole unknown e = absurd (let p : [] ≡ shown_fact u ∷ [] = e in cc)
moved unique g srt slot rules s z acts u (gives t known) rs whole unknown e = absurd (never t (subst (λ us. Contains us t) unknown known))
moved unique g srt slot rules s z acts u (uses {rest = rest} r ks σ left shown right among takes by) rs whole unknown e =
    let is : r ≡ moving srt = sym (alone (moving srt) r (subst (λ xs. Contains xs r) rs among)) in
    by_use unique g srt slot s u ks rest σ left shown right whole unknown takes (subst (λ q. IsUse g q σ left shown right) is by) e

-- no fact is there twice

none_left : {facts rest : Pile} {ks : List ℕ} {left : List Fact} → Takes facts ks left rest → ((j : ℕ) (f : Fact) → slice_get facts j ≡ Some (Some f) → ⊥) → (h : Fact) (fs : List Fact) → left ≡ h ∷ fs → ⊥
none_left nothing gone h fs e = cc
none_left (one {k = k} {f = f} got tail) gone h fs e = gone k f got

used_up : (facts : Pile) (k : ℕ) (f : Fact) → facts ≡ Some (left_fact a) ∷ [] → slice_get facts k ≡ Some (Some f) → (j : ℕ) (h : Fact) → slice_get (used facts k f) j ≡ Some (Some h) → ⊥
used_up facts k f e got j h left = at k (subst (λ fs. slice_get fs k ≡ Some (Some f)) e got) (subst (λ fs. slice_get (used fs k f) j ≡ Some (Some h)) e left)
  where
    empty : (j : ℕ) → slice_get (None ∷ []) j ≡ Some (Some h) → ⊥
    empty zero e = cc
    empty (suc j) e = cc

    at : (k : ℕ) → slice_get (Some (left_fact a) ∷ []) k ≡ Some (Some f) → slice_get (used (Some (left_fact a) ∷ []) k f) j ≡ Some (Some h) → ⊥
    at zero got left =
        let is : left_fact a ≡ f = cc in
        empty j (subst (λ (w : Fact). slice_get (used (Some (left_fact a) ∷ []) 0 w) j ≡ Some (Some h)) (sym is) left)
    at (suc k) got left = cc

no_two : {facts rest : Pile} {ks : List ℕ} {left : List Fact} → Takes facts ks left rest → facts ≡ Some (left_fact a) ∷ [] → (f h : Fact) (fs : List Fact) → left ≡ f ∷ h ∷ fs → ⊥
no_two nothing whole_pile f h fs e = cc
no_two (one {facts = facts} {k = k} {f = w} {fs = gs} got tail) whole_pile f h fs e =
    let later : gs ≡ h ∷ fs = cc in
    none_left tail (used_up facts k w whole_pile got) h fs later

two_left : (R : Fact → Fact → Type 0) (f h : Fact) (left : List Fact) → AllZip R (f ∷ h ∷ []) left → (x : Fact) × (y : Fact) × (left ≡ x ∷ y ∷ [])
two_left R f h [] e = absurd e
two_left R f h (x ∷ []) e = absurd e.1
two_left R f h (x ∷ y ∷ []) e = (x, y, refl)
two_left R f h (x ∷ y ∷ z ∷ zs) e = absurd e.1.1

pub not_twice : (g : Sig) (rules : List Rule) (s z : RuleState) (acts : List Fact) → RuleStep g rules s acts z → rules ≡ taking_twice ∷ [] → s.facts ≡ Some (left_fact a) ∷ [] → s.known ≡ [] → acts ≡ shown_fact a ∷ [] → ⊥
not_twice g rules s z acts (makes_name m new) rs whole unknown e = let p : [] ≡ shown_fact a ∷ [] = e in cc
not_twice g rules s z acts (learns k t takes) rs whole unknown e = let p : [] ≡ shown_fact a ∷ [] = e in cc
not_twice g rules s z acts (owns k m takes) rs whole unknown e = let p : [] ≡ shown_fact a ∷ [] = e in cc
not_twice g rules s z acts (knows_public m) rs whole unknown e = let p : [] ≡ shown_fact a ∷ [] = e in cc
not_twice g rules s z acts (applies f ts t is_public arity known form) rs whole unknown e = let p : [] ≡ shown_fact a ∷ [] = e in cc
not_twice g rules s z acts (gives t known) rs whole unknown e = never t (subst (λ us. Contains us t) unknown known)
not_twice g rules s z acts (uses r ks σ left shown right among takes by) rs whole unknown e =
    let is : r ≡ taking_twice = sym (alone taking_twice r (subst (λ xs. Contains xs r) rs among)) in
    let two = two_left (IsEqualFact (equations g)) (left_fact a) (left_fact a) left (subst (λ q. IsUse g q σ left shown right) is by).takes in
    no_two takes whole two.0 two.1 [] two.2
