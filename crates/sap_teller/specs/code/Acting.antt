-- Who acts in a line, as the code finds it.
use Rattle.std.specs.Prelude.{ℕ, List, [], ◌∷◌}
use Rattle.sap_runs.specs.declared.process_step.PStep.{PStep}
use Rattle.sap_runs.specs.declared.process_step.PStep.TheVariants as line
use Rattle.sap_teller.specs.declared.who.Acting.{Acting}
use Rattle.sap_teller.specs.declared.who.Acting.TheVariants.{Nobody, One, Two}

-- who acts in it
abbrev pub acting : PStep → Acting
acting (line.Nil t) = One t
acting (line.Par t) = One t
acting (line.Rep t) = One t
acting (line.New t n) = One t
acting (line.Out t) = One t
acting (line.Send t k) = One t
acting (line.In t k) = One t
acting (line.Sync s t) = Two s t
acting (line.Then t) = One t
acting (line.Else t) = One t
acting (line.Event t) = One t
acting (line.Insert t) = One t
acting (line.Delete t) = One t
acting (line.Found t) = One t
acting (line.Missing t) = One t
acting (line.Lock t) = One t
acting (line.Unlock t) = One t
acting (line.Embedded t ks b) = One t
acting (line.Name n) = Nobody
acting (line.Public a) = Nobody
acting (line.Apply f ks) = Nobody
acting (line.Know k) = Nobody

-- who does something else in it than begin others or end
abbrev pub doing_threads : PStep → Acting
doing_threads (line.Nil t) = Nobody
doing_threads (line.Par t) = Nobody
doing_threads (line.Rep t) = Nobody
doing_threads step = acting step

-- these threads
abbrev pub threads_in : Acting → List ℕ
threads_in Nobody = []
threads_in (One t) = t ∷ []
threads_in (Two s t) = s ∷ t ∷ []
