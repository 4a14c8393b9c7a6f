use Rattle.assort_core.specs.Stages.{InputsData, no_inputs}
use Rattle.assort_core.proofs.InputLemmas.{gives_later, gives_earlier, later_stop}
use Rattle.assort_core.proofs.SubjectLemmas.{catalogue_alone, chain_given}
use Rattle.assort_core.proofs.chain_inputs.read_chain_subject.Goals as goal

pub returns-in-Err-read_arcs-clause-stopped : goal.returns-in-Err-read_arcs-clause-stopped
returns-in-Err-read_arcs-clause-stopped g c =
    let r = c.args.task.now in
    let old = g.S.Store.view c.args.store.now in
    let mid = g.S.Store.view c.read_catalogue.new.store in
    let i : InputsData = record no_inputs { rows = c.in-Ok.catalogue } in
    later_stop c.in-Err-read_arcs.stop r old mid (g.S.Store.view c.read_arcs.new.store) c.read_catalogue.ensures.passes
    (c.in-Err-read_arcs.ensures.stopped
    (gives_later 3 r old mid i c.read_catalogue.ensures.passes (λ told. catalogue_alone r old i c.requires.limits c.requires.segments (c.in-Ok.ensures.given told))))

pub returns-clause-given : goal.returns-clause-given
returns-clause-given g c = λ told.
    let r = c.args.task.now in
    let old = g.S.Store.view c.args.store.now in
    let mid = g.S.Store.view c.read_catalogue.new.store in
    let passes = c.read_catalogue.ensures.passes in
    let i : InputsData = record no_inputs { rows = c.in-Ok.catalogue } in
    let j : InputsData = record no_inputs { rows = c.in-Ok.catalogue; arcs = c.in-Ok-read_arcs.chain.arcs } in
    chain_given r old c.in-Ok.catalogue c.in-Ok-read_arcs.chain c.requires.model c.in-Ok-read_arcs.ensures.chain
    (gives_earlier 4 r old mid j passes (λ now. c.in-Ok-read_arcs.ensures.given now
    (gives_later 3 r old mid i passes (λ t. catalogue_alone r old i c.requires.limits c.requires.segments (c.in-Ok.ensures.given t)) now)) told)
