use Rattle.vrx_lock.proofs.OfferLemmas.{finished, noted-holding}
use Rattle.vrx_lock.proofs.steps.finish.Goals as goal

pub give_back-requires-clause-holding : goal.give_back-requires-clause-holding
give_back-requires-clause-holding g c = noted-holding c.args.place.now.me c.append-number.new.place.me c.args.kept
    c.append-number.result c.requires.noted c.append-number.ensures.appended

pub returns-clause-finished : goal.returns-clause-finished
returns-clause-finished g c = finished c.args.place.now.me c.append-number.new.place.me c.give_back.new.place.me c.args.kept
    c.append-number.result c.requires.noted c.append-number.ensures.appended c.give_back.ensures.released
