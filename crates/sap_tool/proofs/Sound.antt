-- What is so of every command, as one record of each: what the promises rest on.
use Rattle.std.proofs.Common.{◌≡◌, ◌+◌, ℕ, List, take, None, sym, subst}
use Rattle.sap_outside.specs.RunPieces.{IsReadUp}
use Rattle.sap_tool.specs.Commands.{Behaviour, Input, alone, and_run, run_alone, IsAlone, IsWithRun, IsRunAlone}

-- Of what a command fetches first, by how many bytes this may have, what refuses it and what accepts it: what is accepted isn't refused, one
-- cause refuses it, and its first bytes show it.
pub record IsShown (most : ℕ) (Refused : List ℕ → List ℕ → Type 0) (Accepted : List ℕ → Type 0) : Type 0 where
  pub never : (bytes why : List ℕ) → Accepted bytes → Refused bytes why → ⊥
  pub one : (bytes why other : List ℕ) → Refused bytes why → Refused bytes other → why ≡ other
  pub part_refused : (bytes why : List ℕ) → Refused bytes why → Refused (take (most + 1) bytes) why
  pub by_part : (bytes why : List ℕ) → Refused (take (most + 1) bytes) why → Refused bytes why
  pub part_accepted : (bytes : List ℕ) → Accepted bytes → Accepted (take (most + 1) bytes)

-- what was read is what the command reads, and the file or theory in it is accepted
abbrev pub IsWhole : Behaviour → Input → Type 0
IsWhole d (alone bytes) = d.Accepts bytes × (d.run ≡ None)
IsWhole d (and_run bytes z) = d.Accepts bytes
IsWhole d (run_alone z) = d.file ≡ None

-- the second is what may be read of the first: the first bytes of what is fetched, and the run read up
abbrev pub IsPartOf : ℕ → Input → Input → Type 0
IsPartOf most (alone bytes) (alone x) = x ≡ take (most + 1) bytes
IsPartOf most (and_run bytes z) (and_run x y) = (x ≡ take (most + 1) bytes) × IsReadUp z y
IsPartOf most (run_alone z) (run_alone y) = IsReadUp z y
IsPartOf most held read = ⊥

-- Of a command: what it allows means what it should; no run is both taken and refused, and it is refused for one cause; one that is refused
-- though a text is allowed would be taken; who allows, refuses or takes has read the whole; and what is held is refused where what was read of
-- it is, and the other way about.
pub record IsSound (d : Behaviour) : Type 0 where
  pub fetched : IsShown d.limit d.Refuses d.Accepts
  pub means : (input : Input) (text : List ℕ) → d.Allows input text → d.Means input text
  pub never_taken : (input : Input) (why : List ℕ) → d.TakesRun input → d.RefusesRun input why → ⊥
  pub one_run_why : (input : Input) (why other : List ℕ) → d.RefusesRun input why → d.RefusesRun input other → why ≡ other
  pub takes : (input : Input) (text why : List ℕ) → d.Allows input text → d.RefusesRun input why → d.TakesRun input
  pub allowed_is_whole : (input : Input) (text : List ℕ) → d.Allows input text → IsWhole d input
  pub refused_is_whole : (input : Input) (why : List ℕ) → d.RefusesRun input why → IsWhole d input
  pub taken_is_whole : (input : Input) → d.TakesRun input → IsWhole d input
  pub refused_as_read : (held read : Input) (why : List ℕ) → IsPartOf d.limit held read → d.RefusesRun held why → d.RefusesRun read why
  pub refused_as_held : (held read : Input) (why : List ℕ) → IsPartOf d.limit held read → d.RefusesRun read why → (other : List ℕ) × d.RefusesRun held other

-- Of inputs of one shape: from what is so of their bytes to what is so of them.
pub on_alone : (P Q : List ℕ → Type 0) → ((bytes : List ℕ) → P bytes → Q bytes) → (input : Input) → IsAlone P input → IsAlone Q input
on_alone P Q f (alone bytes) p = f bytes p
on_alone P Q f (and_run bytes z) p = absurd p
on_alone P Q f (run_alone z) p = absurd p

pub on_both : (P Q : List ℕ → List ℕ → Type 0) → ((bytes z : List ℕ) → P bytes z → Q bytes z) → (input : Input) → IsWithRun P input → IsWithRun Q input
on_both P Q f (alone bytes) p = absurd p
on_both P Q f (and_run bytes z) p = f bytes z p
on_both P Q f (run_alone z) p = absurd p

pub on_run : (P Q : List ℕ → Type 0) → ((z : List ℕ) → P z → Q z) → (input : Input) → IsRunAlone P input → IsRunAlone Q input
on_run P Q f (alone bytes) p = absurd p
on_run P Q f (and_run bytes z) p = absurd p
on_run P Q f (run_alone z) p = f z p

-- and from two things that are so
pub alone_two : (P Q : List ℕ → Type 0) (R : Type 0) → ((bytes : List ℕ) → P bytes → Q bytes → R) → (input : Input) → IsAlone P input → IsAlone Q input → R
alone_two P Q R f (alone bytes) p q = f bytes p q
alone_two P Q R f (and_run bytes z) p q = absurd p
alone_two P Q R f (run_alone z) p q = absurd p

pub both_two : (P Q : List ℕ → List ℕ → Type 0) (R : Type 0) → ((bytes z : List ℕ) → P bytes z → Q bytes z → R) → (input : Input) → IsWithRun P input → IsWithRun Q input → R
both_two P Q R f (alone bytes) p q = absurd p
both_two P Q R f (and_run bytes z) p q = f bytes z p q
both_two P Q R f (run_alone z) p q = absurd p

pub run_two : (P Q : List ℕ → Type 0) (R : Type 0) → ((z : List ℕ) → P z → Q z → R) → (input : Input) → IsRunAlone P input → IsRunAlone Q input → R
run_two P Q R f (alone bytes) p q = absurd p
run_two P Q R f (and_run bytes z) p q = absurd p
run_two P Q R f (run_alone z) p q = f z p q

-- whoever reads it has read the whole
pub alone_whole : (d : Behaviour) (P : List ℕ → Type 0) → ((bytes : List ℕ) → P bytes → d.Accepts bytes) → d.run ≡ None → (input : Input) → IsAlone P input → IsWhole d input
alone_whole d P f none (alone bytes) p = (f bytes p, none)
alone_whole d P f none (and_run bytes z) p = absurd p
alone_whole d P f none (run_alone z) p = absurd p

pub both_whole : (d : Behaviour) (P : List ℕ → List ℕ → Type 0) → ((bytes z : List ℕ) → P bytes z → d.Accepts bytes) → (input : Input) → IsWithRun P input → IsWhole d input
both_whole d P f (alone bytes) p = absurd p
both_whole d P f (and_run bytes z) p = f bytes z p
both_whole d P f (run_alone z) p = absurd p

pub run_whole : (d : Behaviour) (P : List ℕ → Type 0) → d.file ≡ None → (input : Input) → IsRunAlone P input → IsWhole d input
run_whole d P none (alone bytes) p = absurd p
run_whole d P none (and_run bytes z) p = absurd p
run_whole d P none (run_alone z) p = none

-- What refuses what is held refuses what was read of it.
pub alone_as_read : (most : ℕ) (P : List ℕ → Type 0) → ((bytes : List ℕ) → P bytes → P (take (most + 1) bytes)) → (held read : Input)
    → IsPartOf most held read → IsAlone P held → IsAlone P read
alone_as_read most P f (alone bytes) (alone x) part p = subst P (sym part) (f bytes p)
alone_as_read most P f (alone bytes) (and_run x y) part p = absurd part
alone_as_read most P f (alone bytes) (run_alone y) part p = absurd part
alone_as_read most P f (and_run bytes z) read part p = absurd p
alone_as_read most P f (run_alone z) read part p = absurd p

pub both_as_read : (most : ℕ) (P : List ℕ → List ℕ → Type 0) → ((bytes z y : List ℕ) → IsReadUp z y → P bytes z → P (take (most + 1) bytes) y)
    → (held read : Input) → IsPartOf most held read → IsWithRun P held → IsWithRun P read
both_as_read most P f (alone bytes) read part p = absurd p
both_as_read most P f (and_run bytes z) (alone x) part p = absurd part
both_as_read most P f (and_run bytes z) (and_run x y) part p = subst (λ (w : List ℕ). P w y) (sym part.0) (f bytes z y part.1 p)
both_as_read most P f (and_run bytes z) (run_alone y) part p = absurd part
both_as_read most P f (run_alone z) read part p = absurd p

pub run_as_read : (most : ℕ) (P : List ℕ → Type 0) → ((z y : List ℕ) → IsReadUp z y → P z → P y) → (held read : Input)
    → IsPartOf most held read → IsRunAlone P held → IsRunAlone P read
run_as_read most P f (alone bytes) read part p = absurd p
run_as_read most P f (and_run bytes z) read part p = absurd p
run_as_read most P f (run_alone z) (alone x) part p = absurd part
run_as_read most P f (run_alone z) (and_run x y) part p = absurd part
run_as_read most P f (run_alone z) (run_alone y) part p = f z y part p

-- And what refuses what was read refuses what is held, for some cause.
pub alone_as_held : (most : ℕ) (P : List ℕ → List ℕ → Type 0) → ((bytes why : List ℕ) → P (take (most + 1) bytes) why → P bytes why) → (held read : Input) (why : List ℕ)
    → IsPartOf most held read → IsAlone (λ bytes. P bytes why) read → (other : List ℕ) × IsAlone (λ bytes. P bytes other) held
alone_as_held most P f (alone bytes) (alone x) why part p = (why, f bytes why (subst (λ (w : List ℕ). P w why) part p))
alone_as_held most P f (and_run bytes z) (alone x) why part p = absurd part
alone_as_held most P f (run_alone z) (alone x) why part p = absurd part
alone_as_held most P f held (and_run x y) why part p = absurd p
alone_as_held most P f held (run_alone y) why part p = absurd p

pub both_as_held : (most : ℕ) (P : List ℕ → List ℕ → List ℕ → Type 0)
    → ((bytes z y why : List ℕ) → IsReadUp z y → P (take (most + 1) bytes) y why → (other : List ℕ) × P bytes z other) → (held read : Input) (why : List ℕ)
    → IsPartOf most held read → IsWithRun (λ bytes z. P bytes z why) read → (other : List ℕ) × IsWithRun (λ bytes z. P bytes z other) held
both_as_held most P f held (alone x) why part p = absurd p
both_as_held most P f (alone bytes) (and_run x y) why part p = absurd part
both_as_held most P f (and_run bytes z) (and_run x y) why part p = f bytes z y why part.1 (subst (λ (w : List ℕ). P w y why) part.0 p)
both_as_held most P f (run_alone z) (and_run x y) why part p = absurd part
both_as_held most P f held (run_alone y) why part p = absurd p

pub run_as_held : (most : ℕ) (P : List ℕ → List ℕ → Type 0) → ((z y why : List ℕ) → IsReadUp z y → P y why → (other : List ℕ) × P z other) → (held read : Input) (why : List ℕ)
    → IsPartOf most held read → IsRunAlone (λ z. P z why) read → (other : List ℕ) × IsRunAlone (λ z. P z other) held
run_as_held most P f held (alone x) why part p = absurd p
run_as_held most P f held (and_run x y) why part p = absurd p
run_as_held most P f (alone bytes) (run_alone y) why part p = absurd part
run_as_held most P f (and_run bytes z) (run_alone y) why part p = absurd part
run_as_held most P f (run_alone z) (run_alone y) why part p = f z y why part p
