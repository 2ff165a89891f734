use Rattle.burst_address.proofs.Alone.{burst-alone, written-alone}
use Rattle.burst_address.proofs.Beats.{incr-bytes, wrap-bytes, burst-page, burst-limit, beat-line, beat-count, beat-follow, strobes-below}
use Rattle.burst_address.proofs.Written.{written-more}
use Rattle.burst_address.proofs.burst_laws.laws.Goals as goal

pub returns-clause-page : goal.returns-clause-page
returns-clause-page c = burst-page

pub returns-clause-limit : goal.returns-clause-limit
returns-clause-limit c = burst-limit

pub returns-clause-line : goal.returns-clause-line
returns-clause-line c = beat-line

pub returns-clause-count : goal.returns-clause-count
returns-clause-count c = beat-count

pub returns-clause-follow : goal.returns-clause-follow
returns-clause-follow c = beat-follow

pub returns-clause-strobes : goal.returns-clause-strobes
returns-clause-strobes c = strobes-below

pub returns-clause-incr : goal.returns-clause-incr
returns-clause-incr c = incr-bytes

pub returns-clause-wrap : goal.returns-clause-wrap
returns-clause-wrap c = wrap-bytes

pub returns-clause-written : goal.returns-clause-written
returns-clause-written c = written-more

pub returns-clause-id : goal.returns-clause-id
returns-clause-id c bus a id tag ws = (burst-alone a id tag, written-alone bus a id tag ws)
