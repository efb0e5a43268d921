-- The formulas of the seven restrictions. Their message variables begin with a capital, so that no constant of a file has the
-- name of one.
use Rattle.std.specs.Prelude.{ℕ, List, [], ◌∷◌, codes}
use Rattle.sap_formula.specs.Form.{Form, action, both, earlier, either, equal, every, exists, implies, negation, same_time}
use Rattle.sap_formula.specs.declared.binder.Binder.TheVariants.{Message, Time}
use Rattle.sap_shapes.specs.ReservedFacts.{delete_fact, eq_fact, event_fact, init_fact, input_fact, insert_fact, is_in_fact, is_not_set_fact, lock_fact, not_eq_fact, unlock_fact}
use Rattle.sap_terms.specs.AdversaryFacts.{k_fact}
use Rattle.sap_terms.specs.Tree.{Tree, variable}
use Rattle.sap_terms.specs.declared.fact.Fact.{Fact}
use Rattle.sap_terms.specs.declared.var.Sort.TheVariants.{Msg}
use Rattle.sap_terms.specs.declared.var.Var.{Var}

-- a variable for any message
abbrev pub any_message : List ℕ → Var
any_message n = record { name = n; sort = Msg }

-- X
abbrev pub X : Var
X = any_message (codes "X")

-- Y
abbrev pub Y : Var
Y = any_message (codes "Y")

-- Z
abbrev pub Z : Var
Z = any_message (codes "Z")

-- L
abbrev pub L : Var
L = any_message (codes "L")

-- M
abbrev pub M : Var
M = any_message (codes "M")

-- #i
abbrev pub i : List ℕ
i = codes "i"

-- #j
abbrev pub j : List ℕ
j = codes "j"

-- #k
abbrev pub k : List ℕ
k = codes "k"

-- the time t shows the fact on v
abbrev pub shows_one : (Tree → Fact) → Var → List ℕ → Form
shows_one fact v t = action (fact (variable v)) t

-- or on v and w
abbrev pub shows_two : (Tree → Tree → Fact) → Var → Var → List ℕ → Form
shows_two fact v w t = action (fact (variable v) (variable w)) t

-- All #i #j. Init()@i & Init()@j ==> #i = #j
abbrev pub one_start : Form
one_start =
    every (Time i ∷ Time j ∷ [])
    (implies (both (action init_fact i) (action init_fact j)) (same_time i j))

-- All X Y #i. Eq(X,Y)@i ==> X = Y
abbrev pub each_equal : Form
each_equal =
    every (Message X ∷ Message Y ∷ Time i ∷ [])
    (implies (shows_two eq_fact X Y i) (equal (variable X) (variable Y)))

-- All X Y #i. NotEq(X,Y)@i ==> not (X = Y)
abbrev pub each_unequal : Form
each_unequal =
    every (Message X ∷ Message Y ∷ Time i ∷ [])
    (implies (shows_two not_eq_fact X Y i) (negation (equal (variable X) (variable Y))))

-- All #k. Delete(X)@k ==> #k < #j | #i < #k
abbrev pub no_delete : Form
no_delete =
    every (Time k ∷ []) (implies (shows_one delete_fact X k) (either (earlier k j) (earlier i k)))

-- All Z #k. Insert(X,Z)@k ==> #k < #j | #k = #j | #i < #k
abbrev pub no_insert : Form
no_insert =
    every (Message Z ∷ Time k ∷ [])
    (implies (shows_two insert_fact X Z k) (either (either (earlier k j) (same_time k j)) (earlier i k)))

-- Ex #j. Insert(X,Y)@j & #j < #i & (no_delete) & (no_insert)
abbrev pub last_insert : Form
last_insert =
    exists (Time j ∷ [])
    (both (both (both (shows_two insert_fact X Y j) (earlier j i)) no_delete) no_insert)

-- All X Y #i. IsIn(X,Y)@i ==> (last_insert)
abbrev pub each_found : Form
each_found =
    every (Message X ∷ Message Y ∷ Time i ∷ []) (implies (shows_two is_in_fact X Y i) last_insert)

-- IsNotSet(X)@i & Insert(X,Y)@j & #j < #i
abbrev pub missed_after : Form
missed_after =
    both (both (shows_one is_not_set_fact X i) (shows_two insert_fact X Y j)) (earlier j i)

-- Ex #k. Delete(X)@k & #j < #k & #k < #i
abbrev pub deleted_between : Form
deleted_between =
    exists (Time k ∷ []) (both (both (shows_one delete_fact X k) (earlier j k)) (earlier k i))

-- All X Y #i #j. missed_after ==> (deleted_between)
abbrev pub each_missed : Form
each_missed =
    every (Message X ∷ Message Y ∷ Time i ∷ Time j ∷ []) (implies missed_after deleted_between)

-- Lock(L,X)@i & Lock(M,X)@j & #i < #j
abbrev pub locked_twice : Form
locked_twice = both (both (shows_two lock_fact L X i) (shows_two lock_fact M X j)) (earlier i j)

-- Ex #k. Unlock(L,X)@k & #i < #k & #k < #j
abbrev pub unlocked_between : Form
unlocked_between =
    exists (Time k ∷ []) (both (both (shows_two unlock_fact L X k) (earlier i k)) (earlier k j))

-- All L M X #i #j. locked_twice ==> (unlocked_between)
abbrev pub each_lock : Form
each_lock =
    every (Message L ∷ Message M ∷ Message X ∷ Time i ∷ Time j ∷ [])
    (implies locked_twice unlocked_between)

-- All Y #k. FACT(Y)@k ==> #k < #j | #k = #n | #i < #k
abbrev pub no_other : (Tree → Fact) → List ℕ → Form
no_other fact n =
    every (Message Y ∷ Time k ∷ [])
    (implies (shows_one fact Y k) (either (either (earlier k j) (same_time k n)) (earlier i k)))

-- All #k. Event()@k ==> #k < #j | #i < #k
abbrev pub no_event : Form
no_event = every (Time k ∷ []) (implies (action event_fact k) (either (earlier k j) (earlier i k)))

-- Ex #j. K(X)@j & #j < #i & (All Y #k. K(Y)@k ==> ..) & (no_event) & (All Y #k. InEvent(Y)@k ==> ..)
abbrev pub last_known : Form
last_known =
    exists (Time j ∷ [])
    (both (both (both (both (shows_one k_fact X j) (earlier j i)) (no_other k_fact j)) no_event) (no_other input_fact i))

-- All X #i. InEvent(X)@i ==> (last_known)
abbrev pub each_served : Form
each_served = every (Message X ∷ Time i ∷ []) (implies (shows_one input_fact X i) last_known)
