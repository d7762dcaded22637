-- `recordings::hear` meets its contract.
use mathlib.Core.Path.{◌≡◌, sym, ap₂, subst, ◌∙◌}
use Prim.Native.Nat.{◌^◌, ◌<◌}
use Rattle.sequences.proofs.Tests.{both}
use Rattle.meaning.specs.Recordings.{join, joined_at}
use Rattle.meaning.specs.TableFiles.{alphabet_in}
use Rattle.meaning.specs.declared.Seen.{Seen}
use Rattle.recordings.specs.Hearings.{HearsJoined}
use Rattle.recordings.proofs.Laws.{fault-form, fault-both, hears, known-low, fit_is, contra-is}
use Rattle.recordings.proofs.hear.Goals as goal

pub contradicts-requires : goal.contradicts-requires
contradicts-requires c = sym c.seen_fits.ensures ∙ (both c.seen_fits.result c.seen_fits-2.result c.if-seen_fits.true).0

pub returns-then-contradicts : goal.returns-then-contradicts
returns-then-contradicts c = let fit = fit_is c.args.signals c.args.a.now c.args.b.now c.args.i c.seen_at-r.result c.seen_at-q.result c.seen_fits.result c.seen_fits-2.result c.seen_at-r.ensures c.seen_at-q.ensures c.seen_fits.ensures c.seen_fits-2.ensures in
    let contra = contra-is c.args.signals c.args.a.now c.args.b.now c.args.i c.seen_at-r.result c.seen_at-q.result c.contradicts.result c.seen_at-r.ensures c.seen_at-q.ensures c.contradicts.ensures in
    fault-both (alphabet_in c.args.t.now c.args.signals) c.args.signals c.args.a.now c.args.b.now c.args.i (fit ∙ c.if-seen_fits.true) (contra ∙ c.if-contradicts.true)

pub hear_joined-requires : goal.hear_joined-requires
hear_joined-requires c = let each = both c.seen_fits.result c.seen_fits-2.result c.if-seen_fits.true in
    let low = known-low c.args.signals c.seen_at-r.result c.seen_at-q.result (sym c.seen_fits.ensures ∙ each.0) (sym c.seen_fits-2.ensures ∙ each.1) in record { signals_bound = c.requires.signals_bound; known_bound = subst (λ (s : Seen). s.known < 2 ^ c.args.signals) (sym c.joined.ensures) low }

pub returns-else-contradicts : goal.returns-else-contradicts
returns-else-contradicts c = let fit = fit_is c.args.signals c.args.a.now c.args.b.now c.args.i c.seen_at-r.result c.seen_at-q.result c.seen_fits.result c.seen_fits-2.result c.seen_at-r.ensures c.seen_at-q.ensures c.seen_fits.ensures c.seen_fits-2.ensures in
    let contra = contra-is c.args.signals c.args.a.now c.args.b.now c.args.i c.seen_at-r.result c.seen_at-q.result c.contradicts.result c.seen_at-r.ensures c.seen_at-q.ensures c.contradicts.ensures in
    let whole : ◌≡◌ {A = Seen} c.joined.result (joined_at c.args.a.now c.args.b.now c.args.i) = c.joined.ensures ∙ ap₂ join c.seen_at-r.ensures c.seen_at-q.ensures in
    hears c.args.t.now c.args.signals c.args.states c.args.a.now c.args.b.now c.args.i c.args.members.now c.hear_joined.new.members c.hear_joined.result (fit ∙ c.if-seen_fits.true) (contra ∙ c.if-contradicts.false)
    (subst (λ (s : Seen). HearsJoined c.args.t.now c.args.signals c.args.states s c.args.i c.args.members.now c.hear_joined.new.members c.hear_joined.result) whole c.hear_joined.ensures)

pub returns-else-seen_fits : goal.returns-else-seen_fits
returns-else-seen_fits c = let fit = fit_is c.args.signals c.args.a.now c.args.b.now c.args.i c.seen_at-r.result c.seen_at-q.result c.seen_fits.result c.seen_fits-2.result c.seen_at-r.ensures c.seen_at-q.ensures c.seen_fits.ensures c.seen_fits-2.ensures in
    fault-form (alphabet_in c.args.t.now c.args.signals) c.args.signals c.args.a.now c.args.b.now c.args.i (fit ∙ c.if-seen_fits.false)
