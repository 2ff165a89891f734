use Rattle.elaborate.proofs.PathFacts.{page-has_one_path, path-begins_at_manager, path-ends_at_endpoint, path-follows_links}
use Rattle.elaborate.proofs.path_laws.laws_of_paths.Goals as goal

pub returns-clause-begins : goal.returns-clause-begins
returns-clause-begins c = path-begins_at_manager

pub returns-clause-follows : goal.returns-clause-follows
returns-clause-follows c = path-follows_links

pub returns-clause-ends : goal.returns-clause-ends
returns-clause-ends c = path-ends_at_endpoint

pub returns-clause-page : goal.returns-clause-page
returns-clause-page c = page-has_one_path
