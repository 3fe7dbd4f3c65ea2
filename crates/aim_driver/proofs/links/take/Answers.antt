use Rattle.std.proofs.Common.{refl, ap, option_map}
use Rattle.aim_driver.specs.Links.{item_of}
use Rattle.aim_driver.proofs.LinkLemmas.{place_within, came_fits, stands_there, noted_there}
use Rattle.aim_driver.proofs.links.take.Goals as goal

pub index_mut-sending-requires : goal.index_mut-sending-requires
index_mut-sending-requires g c =
    let sent = c.args.sent.now in
    place_within sent.items c.args.place _ sent.ok.0 c.requires.there

pub overflow_add-sending : goal.overflow_add-sending
overflow_add-sending g c =
    let sent = c.args.sent.now.items in
    let s = c.index_mut-sending.result.now in
    came_fits sent c.args.place s c.requires.there (stands_there sent c.args.place s (place_within sent c.args.place _ refl c.requires.there) c.index_mut-sending.ensures.value)

pub returns-clause-item : goal.returns-clause-item
returns-clause-item g c =
    let sent = c.args.sent.now.items in
    ap (λ o. option_map item_of o) (stands_there sent c.args.place c.index_mut-sending.result.now (place_within sent c.args.place _ refl c.requires.there) c.index_mut-sending.ensures.value)

pub returns-clause-sent : goal.returns-clause-sent
returns-clause-sent g c =
    let sent = c.args.sent.now.items in
    noted_there sent c.args.place c.index_mut-sending.result.now _ (stands_there sent c.args.place c.index_mut-sending.result.now (place_within sent c.args.place _ refl c.requires.there) c.index_mut-sending.ensures.value) refl
