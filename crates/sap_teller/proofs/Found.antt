-- What is found out of a line is what it does.
use denote.Ref.{Bor}
use Rattle.std.specs.Prelude.{MatchOption, option_copied}
use Rattle.sap_terms.specs.View.{tree}
use Rattle.sap_terms.specs.declared.term.Term.{Term}
use Rattle.std.proofs.Common.{◌≡◌, ℕ, true, false, List, length, Option, Some, None, Result, Ok, Err, IfOk, refl, sym, subst, ◌∙◌}
use Rattle.std.proofs.lemmas.List.{length-map}
use Rattle.sap_calc.specs.Running.{Running, FindsNothing, WouldFind}
use Rattle.sap_deduce.specs.Entries.{Entry, terms_of}
use Rattle.sap_lines.specs.declared.form.Form.{Form}
use Rattle.sap_runs.specs.declared.process_step.PStep.{PStep}
use Rattle.sap_runs.specs.declared.process_step.PStep.TheVariants as line
use Rattle.sap_terms.specs.Equations.{equations}
use Rattle.sap_terms.specs.Signature.{Sig}
use Rattle.sap_terms.specs.declared.binding.Binding.{Binding}
use Rattle.sap_terms.specs.declared.fact.Fact.{Fact}
use Rattle.sap_teller.specs.code.Heads.{form_at, IsBefore, Does, IsFoundOut, IsMade, IsCompared, IsInserted, IsDeleted, IsLooked, IsLocked, IsUnlocked, IsMetBy, IsOfEntry, IsSentBy, IsSentOnBy, IsShownBy, IsTakenAt, IsUsedAt}
use Rattle.sap_teller.specs.declared.before.Before.{Before}
use Rattle.sap_teller.specs.declared.doing.Doing.{Doing}
use Rattle.sap_teller.specs.declared.doing.Doing.TheVariants as does
use Rattle.sap_teller.specs.code.LawsBelow.{Laws}
use Rattle.sap_teller.proofs.Does.{does_ends, does_splits, does_copies, does_names, does_writes, does_shows, does_sends, does_sends_on, does_knows, does_applies, does_made, does_agrees, does_differs, does_inserts, does_deletes, does_locks, does_unlocks, does_misses, does_finds, does_takes, does_meets}
use Rattle.sap_teller.proofs.Embeds.{does_embeds}
use Rattle.sap_teller.proofs.Headed.{by_head, by_sender}

-- what is so of a value that is given is so of it
pub if_ok : {V E : Type 0} (r : Result V E) (P Q : V → Type 0) → ((x : V) → P x → Q x) → IfOk r P → IfOk r Q
if_ok (Ok x) P Q f h = f x h
if_ok (Err e) P Q f h = tt

-- what a key has is what is lent of it
stored_lent : (r : Running) (t : ℕ) (o : Option (Bor Term)) (v : Option Term) → option_copied o ≡ v → MatchOption v (FindsNothing r t) (λ w. WouldFind r t (tree w)) → MatchOption o (FindsNothing r t) (λ w. WouldFind r t (tree w.now))
stored_lent r t None v e h = subst (λ (s : Option Term). MatchOption s (FindsNothing r t) (λ w. WouldFind r t (tree w))) (sym e) h
stored_lent r t (Some x) v e h = subst (λ (s : Option Term). MatchOption s (FindsNothing r t) (λ w. WouldFind r t (tree w))) (sym e) h

module _ (laws : Laws) (kept : Before) (z : Running) (x : Doing) where
  entries_count : (r : Running) (step : PStep) → IsBefore r step kept → kept.entries ≡ length (terms_of r.known)
  entries_count r step b = b.entries ∙ sym (length-map r.known (λ (e : Entry). e.term))

  pub found_ends : (t : ℕ) → x ≡ does.Ends t → IsFoundOut kept z (line.Nil t) x
  found_ends t e r sig exact b = subst (Does r z (line.Nil t)) (sym e) (does_ends t)

  pub found_splits : (t : ℕ) → x ≡ does.Splits kept.threads → IsFoundOut kept z (line.Par t) x
  found_splits t e r sig exact b = subst (Does r z (line.Par t)) (sym e) (does_splits t kept.threads b.threads)

  pub found_copies : (t : ℕ) → x ≡ does.Copies kept.threads → IsFoundOut kept z (line.Rep t) x
  found_copies t e r sig exact b = subst (Does r z (line.Rep t)) (sym e) (does_copies t kept.threads b.threads)

  pub found_names : (n : ℕ) → x ≡ does.Names n → IsFoundOut kept z (line.Name n) x
  found_names n e r sig exact b = subst (Does r z (line.Name n)) (sym e) (does_names n)

  pub found_writes : (a : Bor (List ℕ)) → x ≡ does.Writes a → IsFoundOut kept z (line.Public a.now) x
  found_writes a e r sig exact b = subst (Does r z (line.Public a.now)) (sym e) (does_writes a)

  pub found_knows : (k : ℕ) → IsOfEntry (terms_of z.known) k does.Gives x → IsFoundOut kept z (line.Know k) x
  found_knows k h r sig exact b = does_knows k x h

  pub found_applies : (f ks : Bor (List ℕ)) → IsOfEntry (terms_of z.known) kept.entries (does.Applies f ks) x → IsFoundOut kept z (line.Apply f.now ks.now) x
  found_applies f ks h r sig exact b = does_applies f ks kept.entries x (entries_count r (line.Apply f.now ks.now) b) h

  -- the same of lines that what stands at the heads of their threads tells
  module _ (f : Form) (here : form_at kept.head ≡ f) where
    pub found_made : (t n : ℕ) → IsMade n f x → IsFoundOut kept z (line.New t n) x
    found_made t n h r sig exact b = by_head x t kept.head f here refl b.head (λ k. does_made t n f x k h)

    pub found_shows : (t : ℕ) → IsShownBy f x → IsFoundOut kept z (line.Event t) x
    found_shows t h r sig exact b = by_head x t kept.head f here refl b.head (λ k. does_shows t f x k h)

    pub found_sends : (t : ℕ) → IsSentBy (terms_of z.known) kept.entries f x → IsFoundOut kept z (line.Out t) x
    found_sends t h r sig exact b = by_head x t kept.head f here refl b.head (λ k. does_sends t kept.entries f x (entries_count r (line.Out t) b) k h)

    pub found_sends_on : (t k : ℕ) → IsSentOnBy (terms_of z.known) k kept.entries f x → IsFoundOut kept z (line.Send t k) x
    found_sends_on t k h r sig exact b = by_head x t kept.head f here refl b.head (λ j. does_sends_on t k kept.entries f x (entries_count r (line.Send t k) b) j h)

    pub found_takes : (t k : ℕ) → IsTakenAt (terms_of z.known) k f x → IsFoundOut kept z (line.In t k) x
    found_takes t k h r sig exact b = by_head x t kept.head f here refl b.head (λ j. does_takes laws exact t k f x j h)

    pub found_embeds : (t : ℕ) (ks : List ℕ) (open_bindings : Bor (List Binding)) → IsUsedAt kept.cited z.facts kept.facts open_bindings f x → IsFoundOut kept z (line.Embedded t ks open_bindings.now) x
    found_embeds t ks o h r sig exact b =
        by_head x t kept.head f here refl b.head
        (λ k. does_embeds laws exact t kept.facts ks o f x b.facts k (subst (λ (fs : List Fact). IsUsedAt fs z.facts kept.facts o f x) b.cited h))

    module _ (g : Sig) (same : z.sig ≡ g) where
      pub found_agrees : (t : ℕ) → IsCompared (equations g) true f x → IsFoundOut kept z (line.Then t) x
      found_agrees t h r sig exact b = by_head x t kept.head f here refl b.head (λ k. does_agrees laws t f x k (subst (λ (s : Sig). IsCompared (equations s) true f x) (sym same ∙ sig) h))

      pub found_differs : (t : ℕ) → IsCompared (equations g) false f x → IsFoundOut kept z (line.Else t) x
      found_differs t h r sig exact b = by_head x t kept.head f here refl b.head (λ k. does_differs laws t f x k (subst (λ (s : Sig). IsCompared (equations s) false f x) (sym same ∙ sig) h))

      pub found_inserts : (t : ℕ) → IsInserted (equations g) f x → IsFoundOut kept z (line.Insert t) x
      found_inserts t h r sig exact b = by_head x t kept.head f here refl b.head (λ k. does_inserts laws t f x k (subst (λ (s : Sig). IsInserted (equations s) f x) (sym same ∙ sig) h))

      pub found_deletes : (t : ℕ) → IsDeleted (equations g) f x → IsFoundOut kept z (line.Delete t) x
      found_deletes t h r sig exact b = by_head x t kept.head f here refl b.head (λ k. does_deletes laws t f x k (subst (λ (s : Sig). IsDeleted (equations s) f x) (sym same ∙ sig) h))

      pub found_locks : (t : ℕ) → IsLocked (equations g) f x → IsFoundOut kept z (line.Lock t) x
      found_locks t h r sig exact b = by_head x t kept.head f here refl b.head (λ k. does_locks laws t f x k (subst (λ (s : Sig). IsLocked (equations s) f x) (sym same ∙ sig) h))

      pub found_unlocks : (t : ℕ) → IsUnlocked (equations g) f x → IsFoundOut kept z (line.Unlock t) x
      found_unlocks t h r sig exact b = by_head x t kept.head f here refl b.head (λ k. does_unlocks laws t f x k (subst (λ (s : Sig). IsUnlocked (equations s) f x) (sym same ∙ sig) h))

      pub found_misses : (t : ℕ) → IsLooked (equations g) None f x → IsFoundOut kept z (line.Missing t) x
      found_misses t h r sig exact b = by_head x t kept.head f here refl b.head (λ k. does_misses laws t f x k (subst (λ (s : Sig). IsLooked (equations s) None f x) (sym same ∙ sig) h))

      pub found_finds : (o : Option (Bor Term)) → option_copied o ≡ kept.stored → (t : ℕ) → IsLooked (equations g) o f x → IsFoundOut kept z (line.Found t) x
      found_finds o held t h r sig exact b =
          by_head x t kept.head f here refl b.head
          (λ k. does_finds laws r exact t f x o (stored_lent r t o kept.stored held b.stored) k (subst (λ (s : Sig). IsLooked (equations s) o f x) (sym same ∙ sig) h))

      pub found_meets : (e : Form) → form_at kept.sender ≡ e → (s t : ℕ) → IsMetBy (equations g) e f x → IsFoundOut kept z (line.Sync s t) x
      found_meets e there s t h r sig exact b =
          by_head x t kept.head f here refl b.head
          (λ k. by_sender x s t kept.sender e there b.sender (λ j. does_meets laws exact s t e f x j k (subst (λ (u : Sig). IsMetBy (equations u) e f x) (sym same ∙ sig) h)))
