-- What is contracted is an instance of an equation, and each instance is contracted.
use Rattle.std.proofs.Common.{◌≡◌, ℕ, List, Bool, true, false, ◌&&◌, Option, Some, None, refl, ap}
use Rattle.std.proofs.lemmas.Option.{option_and_then_some}
use Rattle.std.proofs.lemmas.Slice.Eq.{bytes_eq-Decides}
use Rattle.std.specs.Str.{bytes_eq}
use Rattle.sap_terms.specs.Tree.{Tree, variable, public, fresh, apply, Trees, none, more}
use Rattle.sap_terms.specs.Equations.{Equations, IsInstance, first, second, symmetric, asymmetric, signing, revealing, revealed, pair_name, fst_name, snd_name, senc_name, sdec_name, aenc_name, adec_name, pk_name, sign_name, verify_name, reveal_sign_name, reveal_verify_name, get_message_name, true_name, app0, app1, app2}
use Rattle.sap_parts.specs.Parts.{guard, args1, args2, args3, under, parts_under, owner_of, first_part, second_part, opened, opened_by_key, verified}
use Rattle.sap_rewrite.specs.code.Reduce.{or_else, by_first, by_second, by_symmetric, by_asymmetric, by_signing, by_revealing, by_revealed, by_check, contracted}
use Rattle.sap_terms.specs.Same.{same_tree}
use Rattle.sap_terms.proofs.PlainLaws.Tests.{same_tree-sound, same_tree-refl, and_left, and_right}

guard_some : {A P : Type 0} (b : Bool) (o : Option A) (r : A) → guard b o ≡ Some r → (b ≡ true → o ≡ Some r → P) → P
guard_some true o r h k = k refl h
guard_some false o r h k = cc

or_else_some : {A P : Type 0} (a b : Option A) (r : A) → or_else a b ≡ Some r → (a ≡ Some r → P) → (b ≡ Some r → P) → P
or_else_some None b r h k l = l h
or_else_some (Some x) b r h k l = k h

args1-shape : (ts : Trees) (a : Tree) → args1 ts ≡ Some a → ts ≡ more a none
args1-shape none a h = cc
args1-shape (more t none) a h = cc
args1-shape (more t (more u us)) a h = cc

args2-shape : (ts : Trees) (p : Tree × Tree) → args2 ts ≡ Some p → ts ≡ more p.0 (more p.1 none)
args2-shape none p h = cc
args2-shape (more t none) p h = cc
args2-shape (more t (more u none)) p h = let e : (t, u) ≡ p = cc in ap (λ (q : Tree × Tree). more q.0 (more q.1 none)) e
args2-shape (more t (more u (more v vs))) p h = cc

args3-shape : (ts : Trees) (p : Tree × Tree × Tree) → args3 ts ≡ Some p → ts ≡ more p.0 (more p.1 (more p.2 none))
args3-shape none p h = cc
args3-shape (more t none) p h = cc
args3-shape (more t (more u none)) p h = cc
args3-shape (more t (more u (more v none))) p h =
    let e : (t, u, v) ≡ p = cc in ap (λ (q : Tree × Tree × Tree). more q.0 (more q.1 (more q.2 none))) e
args3-shape (more t (more u (more v (more w ws)))) p h = cc

under-shape : (f : List ℕ) (t : Tree) (us : Trees) → under f t ≡ Some us → t ≡ apply f us
under-shape f (apply g ts) us h =
    guard_some (bytes_eq g f) (Some ts) us h (λ b p. let e : g ≡ f = (bytes_eq-Decides g f).0 b in cc)
under-shape f (variable v) us h = cc
under-shape f (public n) us h = cc
under-shape f (fresh k) us h = cc

parts_under-shape : (f : List ℕ) (t : Tree) (p : Tree × Tree) → parts_under f t ≡ Some p → t ≡ app2 f p.0 p.1
parts_under-shape f t p h =
    option_and_then_some _ (under f t) p h (λ us b h.
    let t_is = under-shape f t us b in
    let us_is = args2-shape us p h in
    cc)

owner_of-shape : (t k : Tree) → owner_of t ≡ Some k → t ≡ app1 pk_name k
owner_of-shape t k h =
    option_and_then_some _ (under pk_name t) k h (λ us b h.
    let t_is = under-shape pk_name t us b in
    let us_is = args1-shape us k h in
    cc)

pub first_part-shape : (f : List ℕ) (ts : Trees) (r : Tree) → first_part f ts ≡ Some r → (y : Tree) × (ts ≡ more (app2 f r y) none)
first_part-shape f ts r h =
    option_and_then_some _ (args1 ts) r h (λ t a h.
    option_and_then_some _ (parts_under f t) r h (λ p b h.
    let ts_is = args1-shape ts t a in
    let t_is = parts_under-shape f t p b in
    (p.1, cc)))

pub second_part-shape : (ts : Trees) (r : Tree) → second_part ts ≡ Some r → (x : Tree) × (ts ≡ more (app2 pair_name x r) none)
second_part-shape ts r h =
    option_and_then_some _ (args1 ts) r h (λ t a h.
    option_and_then_some _ (parts_under pair_name t) r h (λ p b h.
    let ts_is = args1-shape ts t a in
    let t_is = parts_under-shape pair_name t p b in
    (p.0, cc)))

pub opened-shape : (ts : Trees) (r : Tree) → opened ts ≡ Some r → (k : Tree) × (ts ≡ more (app2 senc_name r k) (more k none))
opened-shape ts r h =
    option_and_then_some _ (args2 ts) r h (λ p a h.
    option_and_then_some _ (parts_under senc_name p.0) r h (λ q b h.
    guard_some (same_tree q.1 p.1) (Some q.0) r h (λ s h.
    let ts_is = args2-shape ts p a in
    let t_is = parts_under-shape senc_name p.0 q b in
    let k_is = same_tree-sound q.1 p.1 s in
    (p.1, cc))))

pub opened_by_key-shape : (ts : Trees) (r : Tree) → opened_by_key ts ≡ Some r → (k : Tree) × (ts ≡ more (app2 aenc_name r (app1 pk_name k)) (more k none))
opened_by_key-shape ts r h =
    option_and_then_some _ (args2 ts) r h (λ p a h.
    option_and_then_some _ (parts_under aenc_name p.0) r h (λ q b h.
    option_and_then_some _ (owner_of q.1) r h (λ k d h.
    guard_some (same_tree k p.1) (Some q.0) r h (λ s h.
    let ts_is = args2-shape ts p a in
    let t_is = parts_under-shape aenc_name p.0 q b in
    let k_is = owner_of-shape q.1 k d in
    let k_same = same_tree-sound k p.1 s in
    (p.1, cc)))))

verified-shape : (f : List ℕ) (ts : Trees) (r : Tree) → verified f ts ≡ Some r → (m k : Tree) × (ts ≡ more (app2 f m k) (more m (more (app1 pk_name k) none))) × (r ≡ app0 true_name)
verified-shape f ts r h =
    option_and_then_some _ (args3 ts) r h (λ p a h.
    option_and_then_some _ (parts_under f p.0) r h (λ q b h.
    option_and_then_some _ (owner_of p.2) r h (λ k d h.
    guard_some (same_tree q.0 p.1 && same_tree q.1 k) (Some (app0 true_name)) r h (λ s h.
    let ts_is = args3-shape ts p a in
    let t_is = parts_under-shape f p.0 q b in
    let k_is = owner_of-shape p.2 k d in
    let m_same = same_tree-sound q.0 p.1 (and_left _ _ s) in
    let k_same = same_tree-sound q.1 k (and_right _ _ s) in
    (q.0, q.1, cc, cc)))))

module _ (e : Equations) (f : List ℕ) (ts : Trees) (r : Tree) where
  abbrev Instance : Type 0
  Instance = IsInstance e (apply f ts) r

  by_first-sound : by_first f ts ≡ Some r → Instance
  by_first-sound h = guard_some (bytes_eq f fst_name) (first_part pair_name ts) r h (λ b h.
      let s = first_part-shape pair_name ts r h in
      rw ((bytes_eq-Decides f fst_name).0 b, s.1) first)

  by_second-sound : by_second f ts ≡ Some r → Instance
  by_second-sound h = guard_some (bytes_eq f snd_name) (second_part ts) r h (λ b h.
      let s = second_part-shape ts r h in
      rw ((bytes_eq-Decides f snd_name).0 b, s.1) second)

  by_symmetric-sound : by_symmetric e f ts ≡ Some r → Instance
  by_symmetric-sound h = guard_some (bytes_eq f sdec_name && e.symmetric) (opened ts) r h (λ b h.
      let s = opened-shape ts r h in
      rw ((bytes_eq-Decides f sdec_name).0 (and_left (bytes_eq f sdec_name) e.symmetric b), s.1) (symmetric (and_right (bytes_eq f sdec_name) e.symmetric b)))

  by_asymmetric-sound : by_asymmetric e f ts ≡ Some r → Instance
  by_asymmetric-sound h = guard_some (bytes_eq f adec_name && e.asymmetric) (opened_by_key ts) r h (λ b h.
      let s = opened_by_key-shape ts r h in
      rw ((bytes_eq-Decides f adec_name).0 (and_left (bytes_eq f adec_name) e.asymmetric b), s.1) (asymmetric (and_right (bytes_eq f adec_name) e.asymmetric b)))

  signed : (m k : Tree) → f ≡ verify_name → ts ≡ more (app2 sign_name m k) (more m (more (app1 pk_name k) none)) → r ≡ app0 true_name → e.signing ≡ true → Instance
  signed m k name shape right on = rw (name, shape, right) (signing on)

  by_signing-sound : by_signing e f ts ≡ Some r → Instance
  by_signing-sound h = guard_some (bytes_eq f verify_name && e.signing) (verified sign_name ts) r h (λ b h.
      let s = verified-shape sign_name ts r h in
      signed s.0 s.1 ((bytes_eq-Decides f verify_name).0 (and_left (bytes_eq f verify_name) e.signing b)) s.2 s.3 (and_right (bytes_eq f verify_name) e.signing b))

  checked : (m k : Tree) → f ≡ reveal_verify_name → ts ≡ more (app2 reveal_sign_name m k) (more m (more (app1 pk_name k) none)) → r ≡ app0 true_name → e.revealing ≡ true → Instance
  checked m k name shape right on = rw (name, shape, right) (revealing on)

  by_revealing-sound : by_revealing e f ts ≡ Some r → Instance
  by_revealing-sound h = guard_some (bytes_eq f reveal_verify_name && e.revealing) (verified reveal_sign_name ts) r h (λ b h.
      let s = verified-shape reveal_sign_name ts r h in
      checked s.0 s.1 ((bytes_eq-Decides f reveal_verify_name).0 (and_left (bytes_eq f reveal_verify_name) e.revealing b)) s.2 s.3 (and_right (bytes_eq f reveal_verify_name) e.revealing b))

  by_revealed-sound : by_revealed e f ts ≡ Some r → Instance
  by_revealed-sound h = guard_some (bytes_eq f get_message_name && e.revealing) (first_part reveal_sign_name ts) r h (λ b h.
      let s = first_part-shape reveal_sign_name ts r h in
      rw ((bytes_eq-Decides f get_message_name).0 (and_left (bytes_eq f get_message_name) e.revealing b), s.1) (revealed (and_right (bytes_eq f get_message_name) e.revealing b)))

  pub contracted-sound : contracted e f ts ≡ Some r → Instance
  contracted-sound h =
      let a = by_first f ts in
      let b = or_else a (by_second f ts) in
      let c = or_else b (by_symmetric e f ts) in
      let d = or_else c (by_asymmetric e f ts) in
      or_else_some (or_else d (by_revealed e f ts)) (by_check e f ts) r h (λ h.
      or_else_some d (by_revealed e f ts) r h (λ h.
      or_else_some c (by_asymmetric e f ts) r h (λ h.
      or_else_some b (by_symmetric e f ts) r h (λ h.
      or_else_some a (by_second f ts) r h by_first-sound by_second-sound)
      by_symmetric-sound)
      by_asymmetric-sound)
      by_revealed-sound)
      (λ h. or_else_some (by_signing e f ts) (by_revealing e f ts) r h by_signing-sound by_revealing-sound)

-- the contraction of a whole tree
abbrev pub contracted_tree : Equations → Tree → Option Tree
contracted_tree e (variable v) = None
contracted_tree e (public n) = None
contracted_tree e (fresh k) = None
contracted_tree e (apply f ts) = contracted e f ts

pub contracted-complete : (e : Equations) {t r : Tree} → IsInstance e t r → contracted_tree e t ≡ Some r
contracted-complete e first = refl
contracted-complete e second = refl
contracted-complete e (symmetric {m} {k} h) = rw (h, same_tree-refl) refl
contracted-complete e (asymmetric {m} {k} h) = rw (h, same_tree-refl) refl
contracted-complete e (signing {m} {k} h) = rw (h, same_tree-refl, same_tree-refl) refl
contracted-complete e (revealing {m} {k} h) = rw (h, same_tree-refl, same_tree-refl) refl
contracted-complete e (revealed {m} {k} h) = rw h refl
