-- What is told of a process, and of a file.
use Rattle.std.proofs.Common.{◌≡◌, ◌+◌, ◌⊎◌, ◌↔◌, inl, inr, ℕ, zero, suc, Bool, false, List, [], length, replicate, Ok, Err, sym, ap, ◌∙◌, subst, arith}
use Rattle.std.proofs.lemmas.List.{length-replicate}
use Rattle.std.specs.Prelude.{Contains, IfOk, Result}
use Rattle.sap_terms.specs.declared.mem.Mem.{Mem}
use Rattle.sap_terms.specs.declared.var.Var.{Var}
use Rattle.sap_text.specs.Spans.{InOrder}
use Rattle.sap_text.specs.declared.token.Token.{Token}
use Rattle.sap_process.specs.Proc.{Proc}
use Rattle.sap_process.specs.Sites.{sites, sites_from}
use Rattle.sap_read.specs.FileExpansions.{IsFileExpansion}
use Rattle.sap_read.specs.Files.{AreTokens}
use Rattle.sap_read.specs.WrittenFiles.{IsWrittenFile}
use Rattle.sap_stretches.specs.Stretches.{stretch_at}
use Rattle.sap_stretches.specs.declared.stretch.Stretch.{Stretch}
use Rattle.sap_captures.specs.Ascending.{AreAscending}
use Rattle.sap_captures.specs.Captures.{IsToldAt}
use Rattle.sap_captures.specs.code.Flagged.{flagged}
use Rattle.sap_captures.specs.code.Flags.{IsFlagged}
use Rattle.sap_captures.specs.code.Walked.{IsIndexAmong, IsWalked}
use Rattle.sap_captures.specs.declared.desk.Desk.{Desk}
use Rattle.sap_captures.specs.declared.kind.Kind.{Kind}
use Rattle.sap_captures.specs.declared.walk.Walk.{Walk}
use Rattle.sap_captures.proofs.Ascending.{ascending, told_from, told_to}
use Rattle.sap_captures.proofs.Files.{OneBodies, OneCut, OneItems, found_there, told_there}

-- ---- of a process

none_set : (n i : ℕ) → IsFlagged (replicate n false) i → ⊥
none_set zero i h = cc (h)
none_set (suc n) zero h = cc (h)
none_set (suc n) (suc i) h = none_set n i h

module _ (d : Desk) (kind : Kind) (p : Proc) (a b : Walk) (n : ℕ) (trail : a.trail ≡ []) (scope : a.binding.scope ≡ []) (none : a.flags ≡ replicate n false)
    (walked : IsWalked d kind a (sites_from a.trail a.binding.scope 0 p) b) where
  there : IsWalked d kind a (sites p) b
  there = subst (λ (path : List ℕ). IsWalked d kind a (sites_from path [] 0 p) b) trail (subst (λ (vs : List Var). IsWalked d kind a (sites_from a.trail vs 0 p) b) scope walked)

  pub all_set : (i : ℕ) → IsFlagged b.flags i ↔ IsIndexAmong d kind (sites p) i
  all_set i = (to, λ x. (there.flags.set i).1 (inr x)) where
    by : IsFlagged a.flags i ⊎ IsIndexAmong d kind (sites p) i → IsIndexAmong d kind (sites p) i
    by (inl h) = absurd (none_set n i (subst (λ (fs : List Bool). IsFlagged fs i) none h))
    by (inr x) = x

    to : IsFlagged b.flags i → IsIndexAmong d kind (sites p) i
    to h = by ((there.flags.set i).0 h)

  pub as_many : length b.flags ≡ n
  as_many = there.flags.length_is ∙ ap (λ (fs : List Bool). length fs) none ∙ length-replicate n false

-- ---- of a file

module _ (d : Desk) (only : (us : List Token) → AreTokens d.bytes.now us → us ≡ d.tokens.now) (is : IsWrittenFile d.bytes.now d.file.now) (p : Proc) (expanded : IsFileExpansion d.file.now p)
    (cuts : OneCut) (items : OneItems) (bodies : OneBodies) (kind : Kind) (fs : List Bool) (set : (i : ℕ) → IsFlagged fs i ↔ IsIndexAmong d kind (sites p) i) where
  one_told : (t : Stretch) → Contains (flagged d.tokens.now 0 fs) t ↔ IsToldAt kind d.bytes.now t
  one_told t = (to, from) where
    to : Contains (flagged d.tokens.now 0 fs) t → IsToldAt kind d.bytes.now t
    to c =
        let x = told_to d.tokens.now 0 fs t c in
        subst (λ (u : Stretch). IsToldAt kind d.bytes.now u) (sym x.2) (told_there d only is p expanded kind (0 + x.0) (subst (λ (i : ℕ). IsIndexAmong d kind (sites p) i) (omega arith) ((set x.0).0 x.1)))

    from : IsToldAt kind d.bytes.now t → Contains (flagged d.tokens.now 0 fs) t
    from a =
        let x = found_there d only is p expanded cuts items bodies kind t a in
        subst (λ (u : Stretch). Contains (flagged d.tokens.now 0 fs) u) (sym (x.2 ∙ ap (stretch_at d.tokens.now) (omega arith))) (told_from d.tokens.now 0 fs x.0 ((set x.0).1 x.1))

  pub all_told : (r : Result (List Stretch) Mem) → IfOk r (λ ts. ts ≡ flagged d.tokens.now 0 fs) → IfOk r (λ ts. (t : Stretch) → Contains ts t ↔ IsToldAt kind d.bytes.now t)
  all_told (Err e) h = tt
  all_told (Ok ts) h = λ t. subst (λ (us : List Stretch). Contains us t ↔ IsToldAt kind d.bytes.now t) (sym h) (one_told t)

pub told_in_order : (ts : List Token) (size : ℕ) (fs : List Bool) → InOrder 0 size ts → length fs ≡ length ts + 1 → (r : Result (List Stretch) Mem) → IfOk r (λ us. us ≡ flagged ts 0 fs) → IfOk r AreAscending
told_in_order ts size fs o n (Err e) h = tt
told_in_order ts size fs o n (Ok us) h = subst AreAscending (sym h) (ascending ts size o 0 fs (omega (arith, n)))
