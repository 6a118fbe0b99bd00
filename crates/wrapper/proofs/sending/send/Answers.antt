use Rattle.std.proofs.Common.{ap, ◌∙◌}
use Rattle.store.specs.declared.tables.Tables.{Tables}
use Rattle.store.specs.States.{state_of, calls_of}
use Rattle.store.proofs.Stating.{state_is, objects_stay, futures_stay, calls_stay, notes_stay}
use Rattle.wrapper.proofs.Calls.{ticket_in, place-free, line_more, call_new}
use Rattle.wrapper.specs.Sends.{with_future}
use Rattle.wrapper.proofs.sending.send.Goals as goal

pub returns-clause-state : goal.returns-clause-state
returns-clause-state g c =
    let t = c.args.tables.now in
    let t₁ = c.masked-locals.new.tables in
    let t₂ = c.open_future-owed.new.tables in
    let t₃ : Tables = record { objects = t₂.objects; futures = t₂.futures; calls = c.add.new.self; notes = t₂.notes } in
    let m = c.masked-locals.ensures in
    let f = c.open_future-owed.ensures in
    let s = c.args.sending.now in
    let futures = futures_stay t t₁ m.same.futures in
    let calls = calls_stay t t₂ (f.same.calls ∙ m.same.calls) in
    let owed = f.owed ∙ ap (λ fs. ticket_in fs s.level s.answered) futures in
    state_is t t₃ _ _ _ _
    (objects_stay t t₃ (f.same.objects ∙ m.same.objects))
    (f.futures ∙ ap (λ fs. with_future fs s.level s.answered) futures)
    (c.add.ensures.lines ∙ line_more (calls_of t) (calls_of t₂) s.level _ _ _ c.from.ensures calls (place-free (state_of t) s.level s.answered c.requires.room)
    (call_new (state_of t) s.level s.receiver s.method _ c.masked-locals.result s.answered c.open_future-owed.result m.locals owed))
    (notes_stay t₁ t₃ f.same.notes ∙ m.notes)
