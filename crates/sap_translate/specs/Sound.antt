-- Sound processes: what the proofs use of a process that is ready and annotated.
use Rattle.sap_translate.specs.Members.{Member}
use Rattle.std.specs.Prelude.{◌≡◌, ℕ, List, [], ◌∷◌, ◌++◌, Some, false}
use Rattle.sap_terms.specs.Message.{IsOver}
use Rattle.sap_terms.specs.Reserved.{is_reserved}
use Rattle.sap_terms.specs.Signature.{Sig}
use Rattle.sap_terms.specs.declared.var.Var.{Var}
use Rattle.sap_process.specs.Action as action
use Rattle.sap_process.specs.Action.{Action}
use Rattle.sap_process.specs.Proc as whole
use Rattle.sap_process.specs.Proc.{Proc, act}
use Rattle.sap_translate.specs.Scoped.{Within, AllWithin, FactsWithin, IsFree, AreUnreserved}
use Rattle.sap_translate.specs.OpenLocks.{IsUnusedIn, UnlocksAreOpen}
use Rattle.sap_templates.specs.Places.{ScopedPlace, scoped_place_at, root}
use Rattle.sap_place.specs.StateFacts.{tag}
use Rattle.sap_process.specs.Scopes.{lock_var, scope_behind}
use Rattle.sap_process.specs.Sites.{message_var}

-- Before this process, where these variables are in scope, the action uses variables in scope alone, binds no name again
-- and has no reserved fact; what it stores is over the signature.
abbrev pub IsSoundAction : Sig → List Var → Action → Proc → Type 0
IsSoundAction g v (action.new x) p = IsFree x v
IsSoundAction g v (action.out m) p = Within v m
IsSoundAction g v (action.send m n) p = Within v m × Within v n × IsFree tag v
IsSoundAction g v (action.input m) p = Within (scope_behind v (action.input m)) m
IsSoundAction g v (action.receive m n) p =
    Within v m × IsFree tag (scope_behind v (action.receive m n)) × Within (scope_behind v (action.receive m n)) n
IsSoundAction g v (action.event f) p = (is_reserved f.name ≡ false) × AllWithin v f.args
IsSoundAction g v (action.insert m n) p = Within v m × Within v n × IsOver g n
IsSoundAction g v (action.delete m) p = Within v m
IsSoundAction g v (action.lock m i) p = Within v m × IsFree (lock_var i) v × IsUnusedIn (lock_var i) p
IsSoundAction g v (action.unlock m i) p = Within v m × Member (lock_var i) v
IsSoundAction g v (action.embedded l a r) p =
    AreUnreserved l × AreUnreserved a × AreUnreserved r × FactsWithin (scope_behind v (action.embedded l a r)) (l ++ (a ++ r))

-- so it is at the head of the process
abbrev pub SoundAt : Sig → List Var → Proc → Type 0
SoundAt g v whole.nil = Unit {0}
SoundAt g v (whole.parallel p q) = Unit {0}
SoundAt g v (whole.replicated p) = Unit {0}
SoundAt g v (act a p) = IsSoundAction g v a p
SoundAt g v (whole.test m n p q) = Within v m × Within v n
SoundAt g v (whole.lookup m x p q) = Within v m × IsFree x v

-- so it is at the head and in each part, with the variables that are in scope there
abbrev pub SoundParts : Sig → List Var → Proc → Type 0
SoundParts g v whole.nil = Unit {0}
SoundParts g v (whole.parallel p q) = SoundParts g v p × SoundParts g v q
SoundParts g v (whole.replicated p) = SoundParts g v p
SoundParts g v (act a p) = SoundAt g v (act a p) × SoundParts g (scope_behind v a) p
SoundParts g v (whole.test m n p q) = SoundAt g v (whole.test m n p q) × SoundParts g v p × SoundParts g v q
SoundParts g v (whole.lookup m x p q) = SoundAt g v (whole.lookup m x p q) × SoundParts g (v ++ message_var x ∷ []) p × SoundParts g v q

-- so it is at each place
abbrev pub SoundPlaces : Sig → Proc → Type 0
SoundPlaces g start = (path : List ℕ) (a : ScopedPlace) → scoped_place_at (root start) path ≡ Some a → SoundAt g a.above a.body

-- and each unlock is of a lock that is open; those that are open at a parallel or a replication stay so below it
abbrev pub IsSound : Sig → Proc → Type 0
IsSound g start = SoundPlaces g start × UnlocksAreOpen [] start
