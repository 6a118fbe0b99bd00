use Rattle.std.proofs.Common.{map, rules}
use Rattle.script.specs.Programs.{program_of}
use Rattle.script.specs.Reading.{reading}
use Rattle.rules.specs.Calling.{request_of}
use Rattle.rules.proofs.Lawful.{refusals_alter_nothing}
use Rattle.host.proofs.Promised.{secret, labels, levels, owed, kept}
use Rattle.host.proofs.serving.serve.Goals as goal

pub returns-in_err-program-clause-refusals : goal.returns-in_err-program-clause-refusals
returns-in_err-program-clause-refusals g c = refusals_alter_nothing

pub returns : goal.returns
returns g c =
    let o = g.O.Order.levels c.args.order.now in
    let laws = g.met.O.Order.lawful c.args.order.now in
    let program = program_of c.in_ok-program.program in
    let text = c.args.text.now in
    let requests = map request_of c.args.requests.now in
    let e = c.in_ok-program.ensures in
    let formed = ((e.exactly text program).0 e.reads).1 in
    let r = c.serve_program.result in
    let h = c.serve_program.ensures in
    record {
      exact = search rules;
      loaded = search rules;
      secret = secret o laws (reading o.count text) program requests e.reads formed r h;
      labels = labels o laws (reading o.count text) program requests e.reads formed r h;
      levels = levels o laws (reading o.count text) program requests e.reads formed r h;
      owed = owed o laws (reading o.count text) program requests e.reads formed r h;
      kept = kept o laws (reading o.count text) program requests e.reads formed r h;
      refusals = refusals_alter_nothing;
    }
