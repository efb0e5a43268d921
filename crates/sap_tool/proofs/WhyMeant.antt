-- What is told of a file is one text, and means what it says.
use Rattle.std.proofs.Common.{◌≡◌, ◌≤◌, ◌<◌, ℕ, List, ◌++◌, length, Result, Ok, Err, refl, sym, ap, subst, ◌∙◌, arith}
use Rattle.std.specs.Prelude.{IfOk}
use Rattle.sap_read.specs.Files.{FileContent, IsRead}
use Rattle.sap_read.specs.declared.fault.ReadFault.{ReadFault}
use Rattle.sap_refusals.specs.Refusals.{fault_text, refused_line}
use Rattle.sap_explain.specs.Explained.{IsExplanation}
use Rattle.sap_notes.specs.NotesTold.{IsNotesText}
use Rattle.sap_replay.specs.AcceptedFile.{most_bytes, IsRefusedWith, too_long, unread}
use Rattle.sap_tool.specs.WhyTexts.{IsWhyText, of_file, of_length, of_fault, IsToldWhy, told_accepted, told_refused, accepted_text, long_text}
use Rattle.sap_tool.proofs.Refused.{OneReading, one_cause, not_refused, same_fault}

-- what a value has that is there
pub on_ok : {A E : Type 0} (r : Result A E) (P Q : A → Type 0) → ((x : A) → P x → Q x) → IfOk r P → IfOk r Q
on_ok (Ok x) P Q f p = f x p
on_ok (Err e) P Q f p = tt

-- an accepted file has its text, and so have too many bytes and those that a fault refuses
pub accepted_is : (bytes text : List ℕ) (told : FileContent) → length bytes ≤ most_bytes → IsRead bytes (Ok told)
    → (t : List ℕ) × (text ≡ accepted_text ++ t) × IsNotesText bytes t → IsWhyText bytes text
accepted_is bytes text told short read (t, is, notes) = subst (IsWhyText bytes) (sym is) (of_file (record { short = short; read = read }) notes)

pub long_is : (bytes text : List ℕ) → most_bytes < length bytes → text ≡ long_text → IsWhyText bytes text
long_is bytes text long is = subst (IsWhyText bytes) (sym is) (of_length long)

pub refused_is : (bytes text t : List ℕ) (e : ReadFault) → length bytes ≤ most_bytes → IsRead bytes (Err e) → IsExplanation bytes e t → text ≡ refused_line (fault_text e) ++ t → IsWhyText bytes text
refused_is bytes text t e short read explained is = subst (IsWhyText bytes) (sym is) (of_fault short read explained)

module _ (one : OneReading) (bytes : List ℕ) where
  -- a cause that refuses them is the only one, and they aren't accepted
  refused_says : (why rest : List ℕ) → IsRefusedWith bytes why → IsToldWhy bytes (refused_line why ++ rest)
  refused_says why rest r = told_refused why rest r (λ other s. one_cause one bytes other why s r) (λ told file. not_refused one bytes why told r file)

  pub why_means : (text : List ℕ) → IsWhyText bytes text → IsToldWhy bytes text
  why_means _ (of_file {told = told} {t = t} file notes) = told_accepted told t file notes (λ why r. not_refused one bytes why told r file)
  why_means _ (of_length long) = refused_says _ _ (too_long long)
  why_means _ (of_fault {e = e} {t = t} short read explained) = refused_says (fault_text e) t (unread short read)

  -- there is one such text
  pub same_why_text : ((z : List ℕ) (e : ReadFault) (t u : List ℕ) → IsExplanation z e t → IsExplanation z e u → t ≡ u)
      → ((z t u : List ℕ) → IsNotesText z t → IsNotesText z u → t ≡ u) → (text other : List ℕ) → IsWhyText bytes text → IsWhyText bytes other → text ≡ other
  same_why_text only notes _ _ (of_file {t = t} f p) (of_file {t = u} g q) = ap (λ (r : List ℕ). accepted_text ++ r) (notes bytes t u p q)
  same_why_text only notes _ _ (of_file {told = told} f p) (of_length long) = absurd (not_refused one bytes _ told (too_long long) f)
  same_why_text only notes _ _ (of_file {told = told} f p) (of_fault short read x) = absurd (not_refused one bytes _ told (unread short read) f)
  same_why_text only notes _ _ (of_length long) (of_file {told = told} f p) = absurd (not_refused one bytes _ told (too_long long) f)
  same_why_text only notes _ _ (of_length long) (of_length longer) = refl
  same_why_text only notes _ _ (of_length long) (of_fault short read x) = absurd (omega (arith, long, short))
  same_why_text only notes _ _ (of_fault short read x) (of_file {told = told} f p) = absurd (not_refused one bytes _ told (unread short read) f)
  same_why_text only notes _ _ (of_fault short read x) (of_length long) = absurd (omega (arith, long, short))
  same_why_text only notes _ _ (of_fault {e = e} {t = t} short read x) (of_fault {e = f} {t = u} short_too read_too y) =
      let same : f ≡ e = same_fault one bytes f e read_too read in
      let rest : t ≡ u = only bytes e t u x (subst (λ (g : ReadFault). IsExplanation bytes g u) same y) in
      let line : refused_line (fault_text e) ≡ refused_line (fault_text f) = ap (λ (g : ReadFault). refused_line (fault_text g)) (sym same) in
      ap (λ (l : List ℕ). l ++ t) line ∙ ap (λ (r : List ℕ). refused_line (fault_text f) ++ r) rest
