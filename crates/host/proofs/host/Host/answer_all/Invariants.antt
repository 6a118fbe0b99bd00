use Rattle.std.proofs.Common.{◌≡◌, ◌++◌, map, drop, vec_items}
use Rattle.rules.specs.Calling.{request_of, Ran, run_from}
use Rattle.host.specs.Hosts.{program_in, state_in}
use Rattle.host.proofs.host.Host.answer_all.Given as goal

abbrev pub invariant-loop-request : goal.invariant-loop-request
invariant-loop-request g l =
    let o = g.O.Order.levels l.order in
    let program = program_in l.initial.self in
    let rest = run_from o program (state_in l.self) (map request_of (drop l.request-index l.requests)) in
    let answered : Ran = record { answers = vec_items l.answers ++ rest.answers; state = rest.state } in
    (answered ≡ run_from o program (state_in l.initial.self) (map request_of l.requests)) × (l.self.program ≡ l.initial.self.program)
