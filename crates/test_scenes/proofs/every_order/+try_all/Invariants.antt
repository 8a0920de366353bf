-- SPDX-License-Identifier: MIT
-- How many commands can still follow.
use Rattle.test_scenes.proofs.every_order.+try_all.Given as goal

abbrev pub decreases-try_all : goal.decreases-try_all
decreases-try_all l = l.levels
