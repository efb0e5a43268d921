-- Bytes are refused for one cause, or have one theory in each way, which keeps their file.
use Rattle.std.proofs.Common.{◌≡◌, ◌≤◌, ◌<◌, ◌^◌, ℕ, List, length, take, Result, Ok, Err, refl, sym, ap, subst, ◌∙◌, arith}
use Rattle.std.specs.Prelude.{◌+◌}
use Rattle.std.proofs.lemmas.Grind.{common_steps}
use Rattle.sap_read.specs.Files.{FileContent, IsRead, IsRunnable}
use Rattle.sap_read.specs.declared.fault.ReadFault.{ReadFault}
use Rattle.sap_replay.specs.declared.way.Way.{Way}
use Rattle.sap_replay.specs.declared.way.Way.TheVariants.{Plain, Inlined, Short}
use Rattle.sap_replay.specs.AcceptedFile.{most_bytes, IsAcceptedFile, IsRefusedWith, too_long, unread, IsCompiledTheory, IsTheoryOf}
use Rattle.sap_tool.specs.Meaning.{Keeps, IsWritten}
use Rattle.sap_gen.specs.ShortTheories.{IsShortTheory}
use Rattle.sap_gen.specs.Kept.{KeepsFile, KeepsFileInlined, file_theory, inlined_file_theory}
use Rattle.sap_read.specs.Printable.{IsPrintableFile}
use Rattle.sap_read.specs.declared.limits.TheConstants.{MOST_NEW_NAME_BYTES}
use Rattle.sap_rule.specs.declared.theory.Theory.{Theory}
use Rattle.sap_terms.specs.declared.limits.TheConstants.{MOST_FILE_NAME_BYTES, MOST_THEORY_NAME_BYTES}
use Rattle.sap_theory.specs.PrintableTheory.{IsPrintable}
use Rattle.sap_theory.specs.TheoryText.{theory_text}
use Rattle.sap_refusals.specs.Refusals.{fault_text}

-- bytes are read as one file, or refused for one cause
abbrev pub OneReading : Type 0
OneReading = (z : List ℕ) (o u : Result FileContent ReadFault) → IsRead z o → IsRead z u → o ≡ u

-- a file that is read can run
abbrev pub Runnable : Type 0
Runnable = (z : List ℕ) (told : FileContent) → IsRead z (Ok told) → IsRunnable told

-- the theory of a file that can run, written in this way, keeps it
abbrev pub KeepingBy : Way → Type 0
KeepingBy way = (told : FileContent) (t : Theory) → IsRunnable told → IsCompiledTheory way told t → Keeps way told t

abbrev pub Keeping : Type 0
Keeping = (way : Way) → KeepingBy way

pub in_each_way : ((told : FileContent) → IsRunnable told → KeepsFile told (file_theory told))
    → ((told : FileContent) → IsRunnable told → KeepsFileInlined told (inlined_file_theory told)) → KeepingBy Short → Keeping
in_each_way plain inlined short Plain told t can is = subst (KeepsFile told) (sym is) (plain told can)
in_each_way plain inlined short Inlined told t can is = subst (KeepsFileInlined told) (sym is) (inlined told can)
in_each_way plain inlined short Short told t can is = short told t can is

-- the text of the theory of a file that is read, written in this way, spells it and no other
abbrev pub Writing : Type 0
Writing = (way : Way) (z : List ℕ) (told : FileContent) (t : Theory) → IsAcceptedFile z told → IsCompiledTheory way told t → IsWritten (theory_text t) t

-- an accepted file can be printed, since it isn't too long
pub printable_file : ((z : List ℕ) (told : FileContent) → length z ≤ 2 ^ 52 → IsRead z (Ok told) → IsPrintableFile MOST_FILE_NAME_BYTES MOST_NEW_NAME_BYTES told) → (z : List ℕ) (told : FileContent) → IsAcceptedFile z told
    → IsPrintableFile MOST_FILE_NAME_BYTES MOST_NEW_NAME_BYTES told
printable_file law z told file = law z told (omega (arith, file.short)) file.read

-- and so it is where these can be printed
abbrev pub PrintableBy : Way → Type 0
PrintableBy way = (told : FileContent) (t : Theory) → IsRunnable told → IsPrintableFile MOST_FILE_NAME_BYTES MOST_NEW_NAME_BYTES told → IsCompiledTheory way told t
    → IsPrintable MOST_THEORY_NAME_BYTES t

pub printable_in_each_way : ((told : FileContent) → IsRunnable told → IsPrintableFile MOST_FILE_NAME_BYTES MOST_NEW_NAME_BYTES told → IsPrintable MOST_THEORY_NAME_BYTES (file_theory told))
    → ((told : FileContent) → IsRunnable told → IsPrintableFile MOST_FILE_NAME_BYTES MOST_NEW_NAME_BYTES told → IsPrintable MOST_THEORY_NAME_BYTES (inlined_file_theory told))
    → PrintableBy Short → (way : Way) → PrintableBy way
printable_in_each_way plain inlined short Plain told t can print is = subst (IsPrintable MOST_THEORY_NAME_BYTES) (sym is) (plain told can print)
printable_in_each_way plain inlined short Inlined told t can print is = subst (IsPrintable MOST_THEORY_NAME_BYTES) (sym is) (inlined told can print)
printable_in_each_way plain inlined short Short told t can print is = short told t can print is

-- there is one in each way
abbrev pub OneCompiled : Type 0
OneCompiled = (way : Way) (told : FileContent) (t u : Theory) → IsCompiledTheory way told t → IsCompiledTheory way told u → t ≡ u

pub one_compiled : ((told : FileContent) (t u : Theory) → IsShortTheory told t → IsShortTheory told u → t ≡ u) → OneCompiled
one_compiled short Plain told t u a b = a ∙ sym b
one_compiled short Inlined told t u a b = a ∙ sym b
one_compiled short Short told t u a b = short told t u a b

module _ (one : OneReading) (z : List ℕ) where
  pub same_fault : (e f : ReadFault) → IsRead z (Err e) → IsRead z (Err f) → e ≡ f
  same_fault e f r s = let same : ◌≡◌ {A = Result FileContent ReadFault} (Err e) (Err f) = one z (Err e) (Err f) r s in cc

  pub same_file : (t u : FileContent) → IsRead z (Ok t) → IsRead z (Ok u) → t ≡ u
  same_file t u r s = let same : ◌≡◌ {A = Result FileContent ReadFault} (Ok t) (Ok u) = one z (Ok t) (Ok u) r s in cc

  pub not_both : (t : FileContent) (e : ReadFault) → IsRead z (Ok t) → IsRead z (Err e) → ⊥
  not_both t e r s = let same : ◌≡◌ {A = Result FileContent ReadFault} (Ok t) (Err e) = one z (Ok t) (Err e) r s in cc (same)

  -- one cause refuses them
  pub one_cause : (a b : List ℕ) → IsRefusedWith z a → IsRefusedWith z b → a ≡ b
  one_cause a b (too_long l) (too_long m) = refl
  one_cause a b (too_long l) (unread m s) = absurd (omega (arith, l, m))
  one_cause a b (unread l r) (too_long m) = absurd (omega (arith, l, m))
  one_cause a b (unread {e = e} l r) (unread {e = f} m s) = ap fault_text (same_fault e f r s)

  -- what is refused has no theory
  pub not_refused : (why : List ℕ) (told : FileContent) → IsRefusedWith z why → IsAcceptedFile z told → ⊥
  not_refused why told (too_long l) file = omega (arith, l, file.short)
  not_refused why told (unread {e = e} l r) file = not_both told e file.read r

  -- they have one theory in each way
  pub one_theory : OneCompiled → (way : Way) (text other : List ℕ) → IsTheoryOf way z text → IsTheoryOf way z other → text ≡ other
  one_theory only way text other t u =
      let same : u.told ≡ t.told = same_file u.told t.told u.file.read t.file.read in
      let theories : t.theory ≡ u.theory = only way t.told t.theory u.theory t.compiled (subst (λ (f : FileContent). IsCompiledTheory way f u.theory) same u.compiled) in
      t.layout ∙ ap theory_text theories ∙ sym u.layout

-- the first bytes of a file, one more than it may have, show what the file is
abbrev part : List ℕ → List ℕ
part bytes = take (most_bytes + 1) bytes

whole_part : (most : ℕ) (bytes : List ℕ) → length bytes ≤ most → take (most + 1) bytes ≡ bytes
whole_part most bytes h = grind (arith, common_steps)

long_part : (most : ℕ) (bytes : List ℕ) → most < length bytes → most < length (take (most + 1) bytes)
long_part most bytes h = grind (arith, common_steps)

pub part_refused : (bytes why : List ℕ) → IsRefusedWith bytes why → IsRefusedWith (part bytes) why
part_refused bytes why (too_long l) = too_long (long_part most_bytes bytes l)
part_refused bytes why (unread {e = e} l r) = subst (λ (y : List ℕ). IsRefusedWith y (fault_text e)) (sym (whole_part most_bytes bytes l)) (unread l r)

pub part_accepted : (bytes : List ℕ) (told : FileContent) → IsAcceptedFile bytes told → IsAcceptedFile (part bytes) told
part_accepted bytes told file = subst (λ (y : List ℕ). IsAcceptedFile y told) (sym (whole_part most_bytes bytes file.short)) file

short_part : (most : ℕ) (bytes : List ℕ) → length (take (most + 1) bytes) ≤ most → length bytes ≤ most
short_part most bytes h = grind (arith, common_steps)

longer_whole : (most : ℕ) (bytes : List ℕ) → most < length (take (most + 1) bytes) → most < length bytes
longer_whole most bytes h = grind (arith, common_steps)

pub refused_by_part : (bytes why : List ℕ) → IsRefusedWith (part bytes) why → IsRefusedWith bytes why
refused_by_part bytes why (too_long l) = too_long (longer_whole most_bytes bytes l)
refused_by_part bytes why (unread {e = e} l r) =
    subst (λ (y : List ℕ). IsRefusedWith y (fault_text e)) (whole_part most_bytes bytes (short_part most_bytes bytes l)) (unread l r)

pub accepted_by_part : (bytes : List ℕ) (told : FileContent) → IsAcceptedFile (part bytes) told → IsAcceptedFile bytes told
accepted_by_part bytes told file =
    subst (λ (y : List ℕ). IsAcceptedFile y told) (whole_part most_bytes bytes (short_part most_bytes bytes file.short)) file
