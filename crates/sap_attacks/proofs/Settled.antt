-- Facts settle in any order, to one list, whichever were replaced before.
use Rattle.std.proofs.Common.{append_assoc, ◌≡◌, ℕ, ◌+◌, List, [], ◌∷◌, ◌++◌, refl, sym, ap, subst, ◌∙◌, arith}
use Rattle.std.specs.List.{sum_by}
use Rattle.std.proofs.lemmas.List.Sums.{sum_by-cons, sum_by-append}
use Rattle.sap_terms.specs.declared.fact.Fact.{Fact}
use Rattle.sap_attacks.specs.Alike.{AreAlike}
use Rattle.sap_attacks.specs.Settling.{Use, Replacing, Settles, nothing_left, stays, goes_on, IsReplacedInOneWay, SettlesAlike, OrderDoesNotMatter, SettledFactsAreOne, Becomes, stop, replaced, EarlyUsesDoNotMatter, EarlyUsesAreAmongThem, SettledFactsBecome}
use Rattle.sap_attacks.proofs.Alikes.{alike-refl, alike-sym, alike-trans, alike-cons, alike-append, alike-none, alike-middle, fact_out}

module _ (U : Replacing) where
  -- facts in two parts settle in two parts
  record Parts (xs ys hs : List Fact) (us : List Use) : Type 0 where
    first : List Fact
    second : List Fact
    uses : List Use
    others : List Use
    settles : Settles U xs first uses
    settles_too : Settles U ys second others
    facts_are : hs ≡ first ++ second
    uses_are : us ≡ uses ++ others

  -- what the parts weigh
  parts_facts : {xs ys hs : List Fact} {us : List Use} (p : Parts xs ys hs us) (w : Fact → ℕ) → sum_by w hs ≡ sum_by w p.first + sum_by w p.second
  parts_facts p w = ap (sum_by w) p.facts_are ∙ sum_by-append w p.first p.second

  parts_uses : {xs ys hs : List Fact} {us : List Use} (p : Parts xs ys hs us) (w : Use → ℕ) → sum_by w us ≡ sum_by w p.uses + sum_by w p.others
  parts_uses p w = ap (sum_by w) p.uses_are ∙ sum_by-append w p.uses p.others

  parts : {fs hs : List Fact} {us : List Use} → Settles U fs hs us → (xs ys : List Fact) → fs ≡ xs ++ ys → Parts xs ys hs us
  parts {fs} {hs} {us} d [] ys e = record { first = []; second = hs; uses = []; others = us; settles = nothing_left; settles_too = subst (λ zs. Settles U zs hs us) e d; facts_are = refl; uses_are = refl }
  parts nothing_left (x ∷ xs) ys e = cc
  parts (stays {fs = fs} {hs = hs} {us = us} f n d) (x ∷ xs) ys e =
      let same : f ≡ x = cc in
      let p = parts d xs ys (cc) in
      record {
        first = x ∷ p.first;
        second = p.second;
        uses = p.uses;
        others = p.others;
        settles = stays x (λ u more h. n u more (subst (λ y. U y u more) (sym same) h)) p.settles;
        settles_too = p.settles_too;
        facts_are = ap (λ y. y ∷ hs) same ∙ ap (λ zs. x ∷ zs) p.facts_are;
        uses_are = p.uses_are;
      }
  parts (goes_on {fs = fs} {hs = hs} {us = us} f u more h d) (x ∷ xs) ys e =
      let same : f ≡ x = cc in
      let rest : fs ≡ xs ++ ys = cc in
      let p = parts d (more ++ xs) ys (ap (λ zs. more ++ zs) rest ∙ sym (append_assoc more xs ys)) in
      record {
        first = p.first;
        second = p.second;
        uses = u ∷ p.uses;
        others = p.others;
        settles = goes_on x u more (subst (λ y. U y u more) same h) p.settles;
        settles_too = p.settles_too;
        facts_are = p.facts_are;
        uses_are = ap (λ vs. u ∷ vs) p.uses_are;
      }

  -- and what settles in two parts settles
  join : {xs ys hs ks : List Fact} {us vs : List Use} → Settles U xs hs us → Settles U ys ks vs → Settles U (xs ++ ys) (hs ++ ks) (us ++ vs)
  join nothing_left e = e
  join (stays f n d) e = stays f n (join d e)
  join {ys = ys} {ks = ks} {vs = vs} (goes_on {fs = fs} {hs = hs} {us = us} f u more h d) e =
      goes_on f u more h (subst (λ zs. Settles U zs (hs ++ ks) (us ++ vs)) (append_assoc more fs ys) (join d e))

  ordered : {fs hs : List Fact} {us : List Use} → Settles U fs hs us → (gs : List Fact) → AreAlike fs gs → SettlesAlike U gs hs us
  ordered nothing_left gs a =
      record { settled = []; uses = []; settles = subst (λ zs. Settles U zs [] []) (sym (alike-none gs a)) nothing_left; facts = alike-refl []; same_uses = alike-refl [] }
  ordered (stays {fs = fs} {hs = hs} {us = us} f n d) gs a =
      let c = fact_out f fs gs a in
      let s = ordered d (c.before ++ c.behind) c.others in
      let p = parts s.settles c.before c.behind refl in
      record {
        settled = p.first ++ f ∷ p.second;
        uses = p.uses ++ p.others;
        settles = subst (λ zs. Settles U zs (p.first ++ f ∷ p.second) (p.uses ++ p.others)) (sym c.is) (join p.settles (stays f n p.settles_too));
        facts = λ w. omega (arith, s.facts w, parts_facts p w, sum_by-cons w f hs, sum_by-append w p.first (f ∷ p.second), sum_by-cons w f p.second);
        same_uses = λ w. s.same_uses w ∙ ap (sum_by w) p.uses_are;
      }
  ordered (goes_on {fs = fs} {hs = hs} {us = us} f u more h d) gs a =
      let c = fact_out f fs gs a in
      let s = ordered d (more ++ (c.before ++ c.behind)) (alike-append more more fs (c.before ++ c.behind) (alike-refl more) c.others) in
      let p = parts s.settles more (c.before ++ c.behind) refl in
      let q = parts p.settles_too c.before c.behind refl in
      record {
        settled = q.first ++ (p.first ++ q.second);
        uses = q.uses ++ u ∷ (p.uses ++ q.others);
        settles = subst (λ zs. Settles U zs (q.first ++ (p.first ++ q.second)) (q.uses ++ u ∷ (p.uses ++ q.others))) (sym c.is)
            (join q.settles (goes_on f u more h (join p.settles q.settles_too)));
        facts = λ w.
            omega (
              arith,
              s.facts w,
              parts_facts p w,
              parts_facts q w,
              sum_by-append w q.first (p.first ++ q.second),
              sum_by-append w p.first q.second,
            );
        same_uses = λ w.
            omega (
              arith,
              s.same_uses w,
              parts_uses p w,
              parts_uses q w,
              sum_by-cons w u us,
              sum_by-append w q.uses (u ∷ (p.uses ++ q.others)),
              sum_by-cons w u (p.uses ++ q.others),
              sum_by-append w p.uses q.others,
            );
      }

  -- a list of facts settles in one way
  pub settled_once : {fs hs ks : List Fact} {us vs : List Use} → IsReplacedInOneWay U → Settles U fs hs us → Settles U fs ks vs → (hs ≡ ks) × (us ≡ vs)
  settled_once o nothing_left nothing_left = (refl, refl)
  settled_once o (stays f n d) (stays _ m e) = let r = settled_once o d e in (ap (λ zs. f ∷ zs) r.0, r.1)
  settled_once o (stays f n d) (goes_on _ v more h e) = absurd (n v more h)
  settled_once o (goes_on f u more h d) (stays _ m e) = absurd (m u more h)
  settled_once o (goes_on {fs = fs} {hs = hs} {us = us} f u more h d) (goes_on {hs = ks} {us = vs} _ v others k e) =
      let s = o f u v more others h k in
      let r = settled_once o d (subst (λ zs. Settles U (zs ++ fs) ks vs) (sym s.1) e) in
      (r.0, ap (λ x. x ∷ us) s.0 ∙ ap (λ zs. v ∷ zs) r.1)

  settled_one : (fs gs hs ks : List Fact) (us vs : List Use) → IsReplacedInOneWay U → AreAlike fs gs → Settles U fs hs us → Settles U gs ks vs → AreAlike hs ks × AreAlike us vs
  settled_one fs gs hs ks us vs o a d e =
      let s = ordered d gs a in
      let r = settled_once o s.settles e in
      (λ w. s.facts w ∙ ap (sum_by w) r.0, λ w. s.same_uses w ∙ ap (sum_by w) r.1)

  early : {fs gs : List Fact} {us : List Use} → Becomes U fs gs us → (hs : List Fact) (vs : List Use) → Settles U gs hs vs → SettlesAlike U fs hs (us ++ vs)
  early (stop {fs = fs} {hs = gs} a) hs vs d = ordered d fs (alike-sym fs gs a)
  early (replaced {fs = fs} {us = us} f u more rest h a b) hs vs d =
      let s = early b hs vs d in
      let t = ordered (goes_on f u more h s.settles) fs (alike-sym fs (f ∷ rest) a) in
      record {
        settled = t.settled;
        uses = t.uses;
        settles = t.settles;
        facts = alike-trans hs s.settled t.settled s.facts t.facts;
        same_uses = alike-trans (u ∷ (us ++ vs)) (u ∷ s.uses) t.uses (alike-cons u (us ++ vs) s.uses s.same_uses) t.same_uses;
      }

  -- what is left of the uses, once some are done
  record Among (gs hs : List Fact) (us vs : List Use) : Type 0 where
    facts : List Fact
    uses : List Use
    settles : Settles U gs facts uses
    same_facts : AreAlike hs facts
    same_uses : AreAlike vs (us ++ uses)

  -- a fact in front that can be replaced is
  front : (f : Fact) (u : Use) (more : List Fact) → IsReplacedInOneWay U → U f u more → {fs rest hs : List Fact} {vs : List Use}
      → Settles U fs hs vs → fs ≡ f ∷ rest → (ws : List Use) × Settles U (more ++ rest) hs ws × (vs ≡ u ∷ ws)
  front f u more o h nothing_left e = cc
  front f u more o h (stays g n d) e =
      let same : f ≡ g = cc in
      absurd (n u more (subst (λ y. U y u more) same h))
  front f u more o h {rest = rest} {hs = hs} (goes_on {fs = fs} {us = us} g v others k d) e =
      let same : g ≡ f = cc in
      let left : fs ≡ rest = cc in
      let s = o f v u others more (subst (λ y. U y v others) same k) h in
      (us, subst (λ zs. Settles U (zs ++ rest) hs us) s.1 (subst (λ zs. Settles U (others ++ zs) hs us) left d), ap (λ x. x ∷ us) s.0)

  among : {fs gs : List Fact} {us : List Use} → IsReplacedInOneWay U → Becomes U fs gs us → (hs : List Fact) (vs : List Use) → Settles U fs hs vs → Among gs hs us vs
  among o (stop {fs = fs} {hs = gs} a) hs vs d =
      let s = ordered d gs a in
      record { facts = s.settled; uses = s.uses; settles = s.settles; same_facts = s.facts; same_uses = s.same_uses }
  among o (replaced {fs = fs} {us = us} f u more rest h a b) hs vs d =
      let s = ordered d (f ∷ rest) a in
      let t = front f u more o h s.settles refl in
      let r = among o b s.settled t.0 t.1 in
      record {
        facts = r.facts;
        uses = r.uses;
        settles = r.settles;
        same_facts = alike-trans hs s.settled r.facts s.facts r.same_facts;
        same_uses = λ w.
            let e = ap (sum_by w) t.2 in
            omega (arith, s.same_uses w, e, r.same_uses w, sum_by-cons w u t.0, sum_by-cons w u (us ++ r.uses));
      }

  alike_becomes : (fs gs hs : List Fact) (us : List Use) → AreAlike fs gs → Becomes U gs hs us → Becomes U fs hs us
  alike_becomes fs gs _ _ a (stop {hs = hs} b) = stop (alike-trans fs gs hs a b)
  alike_becomes fs gs _ _ a (replaced f u more rest h b d) = replaced f u more rest h (alike-trans fs gs (f ∷ rest) a b) d

  beside : (f : Fact) {fs hs : List Fact} {us : List Use} → Becomes U fs hs us → Becomes U (f ∷ fs) (f ∷ hs) us
  beside f (stop {fs = fs} {hs = hs} a) = stop (alike-cons f fs hs a)
  beside f (replaced {fs = fs} {hs = hs} {us = us} g u more rest h a b) =
      replaced g u more (f ∷ rest) h
      (λ w. omega (arith, a w, sum_by-cons w f fs, sum_by-cons w g rest, sum_by-cons w g (f ∷ rest), sum_by-cons w f rest))
      (alike_becomes (more ++ f ∷ rest) (f ∷ (more ++ rest)) (f ∷ hs) us
      (alike-sym (f ∷ (more ++ rest)) (more ++ f ∷ rest) (alike-middle f more rest)) (beside f b))

  settled_become : {fs hs : List Fact} {us : List Use} → Settles U fs hs us → Becomes U fs hs us
  settled_become nothing_left = stop (alike-refl [])
  settled_become (stays f n d) = beside f (settled_become d)
  settled_become (goes_on {fs = fs} f u more h d) = replaced f u more fs h (alike-refl (f ∷ fs)) (settled_become d)

pub order-does-not-matter : (U : Replacing) → OrderDoesNotMatter U
order-does-not-matter U fs gs hs us d a = ordered U d gs a

pub settled-facts-are-one : (U : Replacing) → SettledFactsAreOne U
settled-facts-are-one U fs gs hs ks us vs o a d e = settled_one U fs gs hs ks us vs o a d e

pub early-uses-do-not-matter : (U : Replacing) → EarlyUsesDoNotMatter U
early-uses-do-not-matter U fs gs hs us vs b d = early U b hs vs d

pub early-uses-are-among-them : (U : Replacing) → EarlyUsesAreAmongThem U
early-uses-are-among-them U fs gs hs us vs o b d = let r = among U o b hs vs d in (r.facts, r.uses, r.settles, r.same_facts, r.same_uses)

pub settled-facts-become : (U : Replacing) → SettledFactsBecome U
settled-facts-become U fs hs us d = settled_become U d
