-- The promises of a whole run, from the laws of the rules.
use Rattle.std.proofs.Common.{◌≡◌, ℕ, true, List, IfOk, Some, Ok, Err, Result, sym, ap, ◌∙◌, subst, MatchResult}
use Rattle.order.specs.Levels.{Levels, Laws}
use Rattle.script.specs.declared.fault.BodyFault.{BodyFault}
use Rattle.script.specs.declared.fault.LoadError.{LoadError}
use Rattle.script.specs.declared.fault.LoadError.TheVariants.{Memory}
use Rattle.script.specs.Classes.{Program}
use Rattle.script.specs.Layout.{well_formed}
use Rattle.rules.specs.declared.tables.Future.TheVariants.{Holding}
use Rattle.rules.specs.Lists.{nth}
use Rattle.rules.specs.Tables.{State}
use Rattle.rules.specs.Calling.{Request, Ran, run}
use Rattle.rules.specs.Laws.{seen, Owed, LabelsFlow, LabelsAreLevels}
use Rattle.rules.proofs.Secret.{secrecy}
use Rattle.rules.proofs.Lawful.{labels_flow, labels_levels, futures_owed, values_stay}
use Rattle.host.specs.declared.serving.Served.{Served}
use Rattle.host.specs.Hosts.{program_in, state_in}
use Rattle.host.specs.Promises.{ran_of, KeepsSecrets, OwesEach, KeepsValues}

module _ (o : Levels) (laws : Laws o) (told : Result Program BodyFault) (program : Program) (requests : List Request) (reads : told ≡ Ok program)
    (formed : well_formed o.count program ≡ true) where
  -- what a program was served with
  abbrev pub RanWith : Result Served LoadError → Type 0
  RanWith r = MatchResult r (λ s. (run o program requests ≡ ran_of s) × (program_in s.host ≡ program)) (λ e. e ≡ Memory)

  state_is : (s : Served) → run o program requests ≡ ran_of s → (run o program requests).state ≡ state_in s.host
  state_is s e = ap (λ (r : Ran). r.state) e

  pub secret : (r : Result Served LoadError) → RanWith r → IfOk r (KeepsSecrets o requests)
  secret (Ok s) h = λ reader k second alike.
      ap (λ (r : Ran). seen o reader requests r.answers) (sym h.0) ∙ secrecy o laws program formed requests reader k second alike
      ∙ ap (λ p. seen o reader second (run o p second).answers) (sym h.1)
  secret (Err e) h = tt

  pub labels : (r : Result Served LoadError) → RanWith r → IfOk r (λ s. LabelsFlow o (state_in s.host))
  labels (Ok s) h = subst (LabelsFlow o) (state_is s h.0) (labels_flow o laws program formed requests)
  labels (Err e) h = tt

  pub levels : (r : Result Served LoadError) → RanWith r → IfOk r (λ s. LabelsAreLevels o (state_in s.host))
  levels (Ok s) h = subst (LabelsAreLevels o) (state_is s h.0) (labels_levels o laws program formed requests)
  levels (Err e) h = tt

  pub owed : (r : Result Served LoadError) → RanWith r → IfOk r OwesEach
  owed (Ok s) h = subst (λ (σ : State). (level : ℕ) → Owed (σ.futures level) (σ.calls level)) (state_is s h.0) (futures_owed o laws program formed requests)
  owed (Err e) h = tt

  pub kept : (r : Result Served LoadError) → RanWith r → IfOk r (KeepsValues o requests)
  kept (Ok s) h = λ before more split home n x e.
      let was : nth ((run o program before).state.futures home) n ≡ Some (Holding x) = ap (λ p. nth ((run o p before).state.futures home) n) (sym h.1) ∙ e in
      ap (λ (σ : State). nth (σ.futures home) n) (sym (ap (λ xs. (run o program xs).state) (sym split) ∙ state_is s h.0))
      ∙ values_stay o laws program formed before more home n x was
  kept (Err e) h = tt
