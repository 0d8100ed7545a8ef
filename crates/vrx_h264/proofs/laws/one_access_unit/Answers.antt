-- The laws of access units, from the lemmas on them.
use Rattle.std.proofs.Common.{ap}
use Rattle.vrx_h264.specs.AccessUnit.{bytes_of, pieces_of}
use Rattle.vrx_h264.proofs.AccessUnitLemmas.{are-joined, joined-are, lacks_start-fails, fails-lacks_start, lacks_end-fails, fails-lacks_end, mixed_unit-fails, fails-mixed_unit, one_outcome}
use Rattle.vrx_h264.proofs.laws.one_access_unit.Goals as goal

pub returns-clause-joined : goal.returns-clause-joined
returns-clause-joined c pieces units = (joined-are pieces units, are-joined pieces units)

pub returns-clause-no_start : goal.returns-clause-no_start
returns-clause-no_start c pieces = (fails-lacks_start pieces, lacks_start-fails pieces)

pub returns-clause-no_end : goal.returns-clause-no_end
returns-clause-no_end c pieces = (fails-lacks_end pieces, lacks_end-fails pieces)

pub returns-clause-mixed : goal.returns-clause-mixed
returns-clause-mixed c pieces = (fails-mixed_unit pieces, mixed_unit-fails pieces)

pub returns-clause-one_of_these : goal.returns-clause-one_of_these
returns-clause-one_of_these c pieces = one_outcome pieces

pub returns-clause-bytes : goal.returns-clause-bytes
returns-clause-bytes c parts units are = ap bytes_of (are-joined (pieces_of parts) units are)
