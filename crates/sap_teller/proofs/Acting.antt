-- Who acts in a line, and what is told of them.
use Rattle.std.proofs.Common.{◌≡◌, ℕ, codes, List, [], ◌∷◌, ◌++◌, refl, sym, ap, ◌∙◌, append_assoc}
use Rattle.sap_players.specs.Casts.{Cast}
use Rattle.sap_players.specs.Numbers.{Player}
use Rattle.sap_runs.specs.declared.process_step.PStep.{PStep}
use Rattle.sap_runs.specs.declared.process_step.PStep.TheVariants as line
use Rattle.sap_tell.specs.Stages.{Stage, doers, player, players_of}
use Rattle.sap_tell.specs.ThreadPaths.{path_of}
use Rattle.sap_tell.specs.ToldText.{actor_text, thread_text}
use Rattle.sap_teller.specs.code.Acting.{acting, doing_threads, threads_in}
use Rattle.sap_teller.specs.declared.who.Acting.{Acting}
use Rattle.sap_teller.specs.declared.who.Acting.TheVariants.{Nobody, One, Two}

pub append_none : {X : Type 0} (xs : List X) → xs ++ [] ≡ xs
append_none [] = refl
append_none (x ∷ xs) = ap (λ ys. x ∷ ys) (append_none xs)

-- what is told of who acts so
abbrev pub told_of : Stage → Acting → List ℕ
told_of a Nobody = codes "adversary"
told_of a (One t) = thread_text a t
told_of a (Two s t) = thread_text a s ++ (codes " to " ++ thread_text a t)

pub actor_is : (a : Stage) (step : PStep) → told_of a (acting step) ≡ actor_text a step
actor_is a (line.Nil t) = refl
actor_is a (line.Par t) = refl
actor_is a (line.Rep t) = refl
actor_is a (line.New t n) = refl
actor_is a (line.Out t) = refl
actor_is a (line.Send t k) = refl
actor_is a (line.In t k) = refl
actor_is a (line.Sync s t) = refl
actor_is a (line.Then t) = refl
actor_is a (line.Else t) = refl
actor_is a (line.Event t) = refl
actor_is a (line.Insert t) = refl
actor_is a (line.Delete t) = refl
actor_is a (line.Found t) = refl
actor_is a (line.Missing t) = refl
actor_is a (line.Lock t) = refl
actor_is a (line.Unlock t) = refl
actor_is a (line.Embedded t ks b) = refl
actor_is a (line.Name n) = refl
actor_is a (line.Public x) = refl
actor_is a (line.Apply f ks) = refl
actor_is a (line.Know k) = refl

pub doers_are : (step : PStep) → threads_in (doing_threads step) ≡ doers step
doers_are (line.Nil t) = refl
doers_are (line.Par t) = refl
doers_are (line.Rep t) = refl
doers_are (line.New t n) = refl
doers_are (line.Out t) = refl
doers_are (line.Send t k) = refl
doers_are (line.In t k) = refl
doers_are (line.Sync s t) = refl
doers_are (line.Then t) = refl
doers_are (line.Else t) = refl
doers_are (line.Event t) = refl
doers_are (line.Insert t) = refl
doers_are (line.Delete t) = refl
doers_are (line.Found t) = refl
doers_are (line.Missing t) = refl
doers_are (line.Lock t) = refl
doers_are (line.Unlock t) = refl
doers_are (line.Embedded t ks b) = refl
doers_are (line.Name n) = refl
doers_are (line.Public x) = refl
doers_are (line.Apply f ks) = refl
doers_are (line.Know k) = refl

-- of one and of two the players are theirs
pub one_player : (cast : Cast) (paths : List (List ℕ)) (ds : List Player) (t : ℕ) → ds ++ player t (cast.at (path_of paths t)) ≡ ds ++ players_of cast paths (t ∷ [])
one_player cast paths ds t = ap (λ (xs : List Player). ds ++ xs) (sym (append_none (player t (cast.at (path_of paths t)))))

pub two_players : (cast : Cast) (paths : List (List ℕ)) (ds : List Player) (s t : ℕ)
    → (ds ++ player s (cast.at (path_of paths s))) ++ player t (cast.at (path_of paths t)) ≡ ds ++ players_of cast paths (s ∷ t ∷ [])
two_players cast paths ds s t =
    let x = player s (cast.at (path_of paths s)) in
    let y = player t (cast.at (path_of paths t)) in
    append_assoc ds x y ∙ ap (λ (zs : List Player). ds ++ (x ++ zs)) (sym (append_none y))
