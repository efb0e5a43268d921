-- Small files with lemmas, to try by hand what their theories keep.
use Rattle.std.specs.Prelude.{ℕ, List, [], ◌∷◌, codes}
use Rattle.sap_terms.specs.AdversaryFacts.{k_fact, linear}
use Rattle.sap_terms.specs.Signature.{Sig}
use Rattle.sap_terms.specs.Tree.{Tree, variable}
use Rattle.sap_terms.specs.declared.fact.Fact.{Fact}
use Rattle.sap_terms.specs.declared.var.Sort.TheVariants.{Fresh, Msg}
use Rattle.sap_terms.specs.declared.var.Var.{Var}
use Rattle.sap_formula.specs.Form.{Form, LemmaForm, action, every, exists, implies, negation}
use Rattle.sap_formula.specs.declared.binder.Binder.TheVariants.{Message, Time}
use Rattle.sap_formula.specs.declared.lemma.Mode.TheVariants.{AllTraces, ExistsTrace}
use Rattle.sap_process.specs.Action.{event, new, out}
use Rattle.sap_process.specs.Proc.{Proc, act, nil}
use Rattle.sap_read.specs.Files.{FileContent}
use Rattle.sap_restrict.specs.ReservedFacts.{init_fact}

-- ~s and x
abbrev pub s : Var
s = record { name = codes "s"; sort = Fresh }

abbrev pub x : Var
x = record { name = codes "x"; sort = Msg }

-- #i and #j
abbrev pub i : List ℕ
i = codes "i"

abbrev pub j : List ℕ
j = codes "j"

-- Secret(t)
abbrev pub secret : Tree → Fact
secret t = linear (codes "Secret") (t ∷ [])

-- new ~s; event Secret(~s); out(~s)
abbrev pub sends_secret : Proc
sends_secret = act (new s) (act (event (secret (variable s))) (act (out (variable s)) nil))

-- All x #i. Secret(x)@i ==> not (Ex #j. K(x)@j)
abbrev pub never_known : Form
never_known =
    every (Message x ∷ Time i ∷ []) (implies (action (secret (variable x)) i) (negation (exists (Time j ∷ []) (action (k_fact (variable x)) j))))

-- Ex x #i. Secret(x)@i
abbrev pub some_secret : Form
some_secret = exists (Message x ∷ Time i ∷ []) (action (secret (variable x)) i)

-- Ex #i. Init()@i
abbrev pub some_start : Form
some_start = exists (Time i ∷ []) (action init_fact i)

-- the lemma that no secret becomes known, of each trace
abbrev pub stays_secret : LemmaForm
stays_secret = record { name = codes "stays_secret"; attributes = []; mode = AllTraces; formula = never_known }

-- that there is a secret, of some trace
abbrev pub is_reached : LemmaForm
is_reached = record { name = codes "is_reached"; attributes = []; mode = ExistsTrace; formula = some_secret }

-- that the rules start, of some trace; it speaks of a hidden fact
abbrev pub starts : LemmaForm
starts = record { name = codes "starts"; attributes = []; mode = ExistsTrace; formula = some_start }

-- the file with that process and its two lemmas
abbrev pub secret_file : Sig → FileContent
secret_file g = record { name = codes "Secrets"; signature = g; process = sends_secret; restrictions = []; lemmas = stays_secret ∷ is_reached ∷ [] }

-- the file with the process `0`, whose lemma speaks of a hidden fact
abbrev pub idle_file : Sig → FileContent
idle_file g = record { name = codes "Idle"; signature = g; process = nil; restrictions = []; lemmas = starts ∷ [] }
