-- What holds of the seven restrictions.
use Rattle.std.specs.Prelude.{◌≡◌, ◌↔◌, ◌⊎◌, ◌++◌, List, Contains, false}
use Rattle.sap_formula.specs.Filled.{filled}
use Rattle.sap_formula.specs.HoldsOf.{AreTrueOn}
use Rattle.sap_formula.specs.Laws.{IsClosed}
use Rattle.sap_formula.specs.Truth.{EachIn, IsTrueOn}
use Rattle.sap_process.specs.Proc.{Proc}
use Rattle.sap_inline.specs.Inline.{formulas}
pub use Rattle.sap_inline.specs.Laws.{InlinedForAllLaw, InlinedForSomeLaw}
use Rattle.sap_restrict.specs.Needed.{needed, needs}
use Rattle.sap_restrict.specs.Quiet.{premise_name}
use Rattle.sap_restrict.specs.Restrictions.{needed_restrictions}
use Rattle.sap_restrict.specs.Sentences.{MeetsDemands, Says}
use Rattle.sap_restrict.specs.Shown.{AreLinear, HasAlike, NoneShows}
use Rattle.sap_restrict.specs.Standard.{IsAdmitted, standard}
use Rattle.sap_restrict.specs.declared.which.Which.{Which}
use Rattle.sap_terms.specs.Equations.{equations}
use Rattle.sap_terms.specs.Message.{IsMessageTrace}
use Rattle.sap_terms.specs.Signature.{Sig}
use Rattle.sap_terms.specs.Trace.{Trace}

-- on a trace of messages each formula is true exactly where its sentence holds
abbrev pub MeaningLaw : Type 0
MeaningLaw = (w : Which) (g : Sig) (tr : Trace) → IsMessageTrace g tr → IsTrueOn g (standard w) tr ↔ Says (equations g) (HasAlike tr) w

-- what is true of a trace of messages is true of each of its prefixes
abbrev pub PrefixLaw : Type 0
PrefixLaw =
    (w : Which) (g : Sig) (tr more : Trace) → IsMessageTrace g (tr ++ more) → IsTrueOn g (standard w) (tr ++ more) → IsTrueOn g (standard w) tr

-- a formula is true where the trace doesn't show the fact of which its premise speaks
abbrev pub QuietLaw : Type 0
QuietLaw = (w : Which) (g : Sig) (tr : Trace) → NoneShows (premise_name w) tr → IsTrueOn g (standard w) tr

-- so some of the seven decide, where the trace doesn't show the others' facts
abbrev pub NeededLaw : Type 0
NeededLaw =
    (ws : List Which) (g : Sig) (tr : Trace) → ((w : Which) → Contains ws w ⊎ NoneShows (premise_name w) tr) → IsAdmitted g tr ↔ EachIn (λ w. IsTrueOn g (standard w) tr) ws

-- each is among those that a process needs, or the process doesn't need it
abbrev pub NeedsLaw : Type 0
NeedsLaw = (w : Which) (p : Proc) → Contains (needed p) w ⊎ (needs w p ≡ false)

-- so where the trace doesn't show the facts of those that a process doesn't need, it is admitted exactly where the
-- process's restrictions are true on it
abbrev pub EnoughLaw : Type 0
EnoughLaw =
    (p : Proc) (g : Sig) (tr : Trace) → ((w : Which) → needs w p ≡ false → NoneShows (premise_name w) tr) → IsAdmitted g tr ↔ AreTrueOn g (formulas (needed_restrictions p)) tr

-- a full trace of messages is admitted exactly where it meets the seven sentences
abbrev pub AdmittedLaw : Type 0
AdmittedLaw = (g : Sig) (tr : Trace) → IsMessageTrace g tr → AreLinear tr → IsAdmitted g tr ↔ MeetsDemands (equations g) tr

-- each of the seven formulas is closed, over each signature
abbrev pub StandardClosedLaw : Type 0
StandardClosedLaw = (g : Sig) (w : Which) → IsClosed g (standard w)

-- so a full trace of messages is admitted exactly where it is without its empty times
abbrev pub AdmittedFilledLaw : Type 0
AdmittedFilledLaw = (g : Sig) (tr : Trace) → IsMessageTrace g tr → IsAdmitted g tr ↔ IsAdmitted g (filled tr)
